-- How reading comes to an expression of a layer, from how it comes to its operands.
use Rattle.std.proofs.Common.{◌≡◌, ◌≤◌, ◌==◌, ℕ, zero, suc, ◌+◌, max, List, Some, Bool, true, false, Ok, slice_get, refl, sym, ap, ◌∙◌, lit<, arith}
use Rattle.std.proofs.lemmas.Bool.{le-leb, ne_eqb}
use Rattle.vl_tree.specs.declared.terminals.Terminal.{Terminal}
use Rattle.vl_tree.specs.declared.terminals.Terminal.TheVariants as lex
use Rattle.vl_tree.specs.declared.operators.BinOp.{BinOp}
use Rattle.vl_tree.specs.declared.exprs.Expr.{Expr}
use Rattle.vl_tree.specs.declared.exprs.Expr.TheVariants as expr
use Rattle.vl_tree.specs.Places.{At}
use Rattle.vl_tree.specs.Operators.{binary}
use Rattle.vl_expr.specs.declared.found.Found.{Found}
use Rattle.vl_expr.specs.Classes.{operator_of}
use Rattle.vl_expr.specs.Reading
use Rattle.vl_expr.specs.Reading.{Reading, ◌>>=◌, node, reader_of, level_of, tail_of}
use Rattle.vl_expr.proofs.Results.{past_at, in_is_true}
use Rattle.vl_expr.proofs.Follow.{Stops, binary_within, operator_there, no_question}
use Rattle.vl_expr.proofs.Comes.{found, Comes, Claim, Loose, loose_below, loosest_by, finish_by, settled, below_reads}
use Rattle.vl_expr.proofs.Primaries.{bind_at, if_true, if_false, stops_at}

module _ (ls : List Terminal) where
  pub tighter_comes : {m l i j : ℕ} {e : Expr} → Claim ls m l i j e → Loose (suc l) (slice_get ls j) → Claim ls m (suc l) i j e
  tighter_comes {m = m} {l = l} {i = i} {j = j} {e = e} c s = record { comes = comes }
    where
      stops : Stops l (slice_get ls j)
      stops = loose_below l (slice_get ls j) s

      rest : (n d : ℕ) (b : Bool) → Stops (loosest_by l b) (slice_get ls j) → (l == 10) ≡ b →
          Reading.rest_of ls (reader_of ls n) n l i (found e j d) b ≡ finish_by ls n l i n (found e j d) b
      rest n d true t ten = if_false _ _ _ (no_question (slice_get ls j) t)
      rest n d false t ten = refl

      comes : (n : ℕ) → m ≤ suc n → Comes ls n m (suc l) i j e
      comes n le =
          let d = c.comes n le in
          record {
            turns = n;
            depth = d.depth;
            least = d.least;
            enough = let f = d.least in omega arith;
            fits = d.fits;
            is = bind_at _ (settled ls d stops) ∙ rest n d.depth (l == 10) s.stops refl;
          }

  -- one turn of a tail: an operator and its right operand
  record Turned (n l from turns : ℕ) (p q : Found Expr) : Type 0 where
    left : ℕ
    one : turns ≡ suc left
    is : tail_of ls (reader_of ls n) n l from turns p ≡ tail_of ls (reader_of ls n) n l from left q

  turned : {n l from k d : ℕ} {x : Terminal} {op : BinOp} {b : Expr} (turns : ℕ) (p : Found Expr) → 1 ≤ turns → p.depth ≤ n →
      At ls p.end x → binary x ≡ Some (suc l, op) → (reader_of ls n).level l (p.end + 1) ≡ Ok (found b k d) →
      Turned n l from turns p (node (expr.Binary from op p.tree b) k (max p.depth d))
  turned zero p some fits h o r = absurd (omega arith)
  turned {n = n} {l = l} {from = from} {x = x} {op = op} (suc turns) p some fits h o r = record {
    left = turns;
    one = refl;
    is = ap (Reading.step_by (reader_of ls n) n l from (tail_of ls (reader_of ls n) n l from turns) p)
        (ap (operator_of l) h ∙ operator_there l x op o)
        ∙ ap (λ read. read >>= tail_of ls (reader_of ls n) n l from turns) (if_true _ _ _ (le-leb p.depth n fits) ∙ bind_at _ r);
  }

  pub binary_comes : {m l i j k : ℕ} {x : Terminal} {op : BinOp} {a b : Expr} → Claim ls m (suc l) i j a → At ls j x →
      binary x ≡ Some (suc l, op) → Claim ls m l (j + 1) k b → Loose (suc l) (slice_get ls k) →
      Claim ls (suc m) (suc l) i k (expr.Binary i op a b)
  binary_comes {m = m} {l = l} {i = i} {j = j} {k = k} {x = x} {op = op} {a = a} {b = b} ca h o cb s = record { comes = comes }
    where
      ten : (l == 10) ≡ false
      ten = let w = binary_within x (suc l) op o in ne_eqb l 10 (λ e. omega arith)

      comes : (n : ℕ) → suc m ≤ suc n → Comes ls n (suc m) (suc l) i k (expr.Binary i op a b)
      comes n le =
          let d = ca.comes n (omega arith) in
          let r = below_reads ls cb (loose_below l (slice_get ls k) s) n (omega arith) in
          let some : 1 ≤ d.turns = (let f = d.fits in let g = d.enough in omega arith) in
          let t = turned {n = n} {l = l} {from = i} {k = k} {d = r.depth} {x = x} {op = op} {b = b} d.turns (found a j d.depth) some (let f = d.fits in omega arith) h o r.is in
          record {
            turns = t.left;
            depth = suc (max d.depth r.depth);
            least = omega arith;
            enough = let g = d.enough in let q = t.one in omega arith;
            fits = let f = d.fits in let g = r.fits in omega arith;
            is = d.is ∙ ap (finish_by ls n l i d.turns (found a j d.depth)) ten ∙ t.is
                ∙ sym (ap (finish_by ls n l i t.left (node (expr.Binary i op a b) k (max d.depth r.depth))) ten);
          }

  pub choice_comes : {m i j k p : ℕ} {a b c : Expr} → Claim ls m 10 i j a → At ls j lex.Question → Claim ls m 11 (j + 1) k b →
      At ls k lex.Colon → Claim ls m 11 (k + 1) p c → Loose 11 (slice_get ls p) → Claim ls (suc m) 11 i p (expr.Choice i a b c)
  choice_comes {m = m} {i = i} {j = j} {k = k} {p = p} {a = a} {b = b} {c = c} ca hj cb hk cc s = record {
    comes = λ n le.
        let d = ca.comes n (omega arith) in
        let q = below_reads ls cb (stops_at hk (record { above = lit< tt })) n (omega arith) in
        let r = below_reads ls cc s.stops n (omega arith) in
        record {
          turns = n;
          depth = suc (max d.depth (max q.depth r.depth));
          least = omega arith;
          enough = omega arith;
          fits = let f = d.fits in let g = q.fits in let h = r.fits in omega arith;
          is = bind_at _ (settled ls d (stops_at hj (record { above = lit< tt })))
              ∙ if_true _ _ _ (in_is_true (slice_get ls j) lex.Question hj)
              ∙ if_true _ _ _ (le-leb d.depth n (let f = d.fits in omega arith))
              ∙ bind_at _ q.is ∙ past_at ls k lex.Colon _ hk ∙ bind_at _ r.is;
        };
  }
