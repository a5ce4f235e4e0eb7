-- The lines of a text are its statements, without lists and arms; and the nodes of a line are those of its statement's expressions.
use Rattle.std.proofs.Common.{◌≡◌, ◌⊎◌, inl, inr, Bool, true, false, List, [], ◌∷◌, ◌++◌, map, Option, Some, None, refl, sym, ◌∙◌, ap, ap₂, subst, append_assoc}
use Rattle.std.specs.Prelude.{Contains, flat_map}
use Rattle.std.proofs.lemmas.List.{map-append}
use Rattle.std.proofs.lemmas.Grind.{flat_map-append}
use Rattle.std.proofs.lemmas.List.Elements.{Contains-append_left, Contains-append_right, Contains-append_cases}
use Rattle.el_design.specs.Plain.{Expr, Number, NetValue, Variable, MemoryWord, Select, Unary, Binary, Choice, Concat, Copies, Sign, Resize, Call, Exprs, NoExpr, More, Range, Bit, Part, Up, Down, Lvalue, ToVariable, ToPart, ToWord, ToWordPart, Both, Nowhere, Statement, Null, Skip, Seq, Block, Assign, If, Case, Arm, For, While, Repeat, Forever, Wait, Enable, Disable, Host}
use Rattle.el_design.specs.Names.{nodes_of, nodes_of_all, range_nodes, range_indexes, target_indexes, target_variables, own_expressions, own_targets, labels_in, listed}
use Rattle.el_design.specs.Texts.{texts}
use Rattle.el_design.specs.View.{exprs_of, parts_of}
use Rattle.el_design.proofs.OrderLists.{con_nil, con_head, con_tail, con_cases}
use Rattle.ck_call.specs.declared.nodes.Node.{Node}
use Rattle.ck_call.specs.declared.nodes.Node.TheVariants as node
use Rattle.ck_call.specs.declared.lines.Line.{Line}
use Rattle.ck_call.specs.inner.Nodes.{node_of, named, named_all, named_range, indexes_named, result_named, labels_named, own_named}
use Rattle.ck_call.specs.inner.Lines.{line_of, lines, own_stored, result_stored}
use Rattle.ck_call.proofs.Lists.{nil_end}

-- ---- statements

-- what has a line
abbrev pub is_real : Statement → Bool
is_real Skip = false
is_real (Seq a b) = false
is_real (Arm on labels body others) = false
is_real x = true

under : (s x : Statement) (xs : List Statement) (ls : List Line) → (Contains xs x → Contains ls (line_of x)) → Contains (s ∷ xs) x → Contains (line_of s ∷ ls) (line_of x)
under s x xs ls f c = go (con_cases s x xs c)
  where
    go : (s ≡ x) ⊎ Contains xs x → Contains (line_of s ∷ ls) (line_of x)
    go (inl e) = subst (λ y. Contains (line_of s ∷ ls) (line_of y)) e (con_head (line_of s) ls)
    go (inr k) = con_tail (line_of s) (line_of x) ls (f k)

none : (x : Statement) → Contains [] x → Contains [] (line_of x)
none x c = absurd (con_nil x c)

hidden : (s x : Statement) (xs : List Statement) (ls : List Line) → is_real s ≡ false → is_real x ≡ true → (Contains xs x → Contains ls (line_of x)) → Contains (s ∷ xs) x → Contains ls (line_of x)
hidden s x xs ls n r f c = go (con_cases s x xs c)
  where
    go : (s ≡ x) ⊎ Contains xs x → Contains ls (line_of x)
    go (inl e) = let h : true ≡ false = sym r ∙ ap is_real (sym e) ∙ n in cc
    go (inr k) = f k

both : (x : Statement) (xs ys : List Statement) (ls ms : List Line) → (Contains xs x → Contains ls (line_of x)) → (Contains ys x → Contains ms (line_of x)) → Contains (xs ++ ys) x → Contains (ls ++ ms) (line_of x)
both x xs ys ls ms f g c = go (Contains-append_cases xs ys x c)
  where
    go : Contains xs x ⊎ Contains ys x → Contains (ls ++ ms) (line_of x)
    go (inl k) = Contains-append_left ls ms (line_of x) (f k)
    go (inr k) = Contains-append_right ls ms (line_of x) (g k)

pub has_line : (s x : Statement) → is_real x ≡ true → Contains (texts s) x → Contains (lines s) (line_of x)
has_line Null x r c = under Null x [] [] (none x) c
has_line Skip x r c = hidden Skip x [] [] refl r (none x) c
has_line (Seq a b) x r c = hidden (Seq a b) x (texts a ++ texts b) (lines a ++ lines b) refl r (both x (texts a) (texts b) (lines a) (lines b) (has_line a x r) (has_line b x r)) c
has_line (Block at mark body) x r c = under (Block at mark body) x (texts body) (lines body) (has_line body x r) c
has_line (Assign at to e held) x r c = under (Assign at to e held) x [] [] (none x) c
has_line (If at test a b) x r c = under (If at test a b) x (texts a ++ texts b) (lines a ++ lines b) (both x (texts a) (texts b) (lines a) (lines b) (has_line a x r) (has_line b x r)) c
has_line (Case at on arms) x r c = under (Case at on arms) x (texts arms) (lines arms) (has_line arms x r) c
has_line (Arm on labels body others) x r c = hidden (Arm on labels body others) x (texts body ++ texts others) (lines body ++ lines others) refl r (both x (texts body) (texts others) (lines body) (lines others) (has_line body x r) (has_line others x r)) c
has_line (For at v first test next body) x r c = under (For at v first test next body) x (texts body) (lines body) (has_line body x r) c
has_line (While at test body) x r c = under (While at test body) x (texts body) (lines body) (has_line body x r) c
has_line (Repeat at count body) x r c = under (Repeat at count body) x (texts body) (lines body) (has_line body x r) c
has_line (Forever at body) x r c = under (Forever at body) x (texts body) (lines body) (has_line body x r) c
has_line (Wait at falling) x r c = under (Wait at falling) x [] [] (none x) c
has_line (Enable at t ins outs) x r c = under (Enable at t ins outs) x [] [] (none x) c
has_line (Disable at m) x r c = under (Disable at m) x [] [] (none x) c
has_line (Host at f ins result outs) x r c = under (Host at f ins result outs) x [] [] (none x) c

-- a statement of a text that a line stands for
pub record Lies (xs : List Statement) (l : Line) : Type 0 where
  pub statement : Statement
  pub there : Contains xs statement
  pub real : is_real statement ≡ true
  pub is : line_of statement ≡ l

lies_in : (l : Line) (xs ys : List Statement) → ((x : Statement) → Contains xs x → Contains ys x) → Lies xs l → Lies ys l
lies_in l xs ys f h = record { statement = h.statement; there = f h.statement h.there; real = h.real; is = h.is }

itself : (s : Statement) (l : Line) (xs : List Statement) (ls : List Line) → is_real s ≡ true → (Contains ls l → Lies xs l) → Contains (line_of s ∷ ls) l → Lies (s ∷ xs) l
itself s l xs ls r f c = go (con_cases (line_of s) l ls c)
  where
    go : (line_of s ≡ l) ⊎ Contains ls l → Lies (s ∷ xs) l
    go (inl e) = record { statement = s; there = con_head s xs; real = r; is = e }
    go (inr k) = lies_in l xs (s ∷ xs) (λ x h. con_tail s x xs h) (f k)

behind : (s : Statement) (l : Line) (xs : List Statement) → Lies xs l → Lies (s ∷ xs) l
behind s l xs h = lies_in l xs (s ∷ xs) (λ x k. con_tail s x xs k) h

either : (l : Line) (xs ys : List Statement) (ls ms : List Line) → (Contains ls l → Lies xs l) → (Contains ms l → Lies ys l) → Contains (ls ++ ms) l → Lies (xs ++ ys) l
either l xs ys ls ms f g c = go (Contains-append_cases ls ms l c)
  where
    go : Contains ls l ⊎ Contains ms l → Lies (xs ++ ys) l
    go (inl k) = lies_in l xs (xs ++ ys) (λ x h. Contains-append_left xs ys x h) (f k)
    go (inr k) = lies_in l ys (xs ++ ys) (λ x h. Contains-append_right xs ys x h) (g k)

no_line : (l : Line) (xs : List Statement) → Contains [] l → Lies xs l
no_line l xs c = absurd (con_nil l c)

pub line_is : (s : Statement) (l : Line) → Contains (lines s) l → Lies (texts s) l
line_is Null l c = itself Null l [] [] refl (no_line l []) c
line_is Skip l c = no_line l (Skip ∷ []) c
line_is (Seq a b) l c = behind (Seq a b) l (texts a ++ texts b) (either l (texts a) (texts b) (lines a) (lines b) (line_is a l) (line_is b l) c)
line_is (Block at mark body) l c = itself (Block at mark body) l (texts body) (lines body) refl (line_is body l) c
line_is (Assign at to e held) l c = itself (Assign at to e held) l [] [] refl (no_line l []) c
line_is (If at test a b) l c = itself (If at test a b) l (texts a ++ texts b) (lines a ++ lines b) refl (either l (texts a) (texts b) (lines a) (lines b) (line_is a l) (line_is b l)) c
line_is (Case at on arms) l c = itself (Case at on arms) l (texts arms) (lines arms) refl (line_is arms l) c
line_is (Arm on labels body others) l c = behind (Arm on labels body others) l (texts body ++ texts others) (either l (texts body) (texts others) (lines body) (lines others) (line_is body l) (line_is others l) c)
line_is (For at v first test next body) l c = itself (For at v first test next body) l (texts body) (lines body) refl (line_is body l) c
line_is (While at test body) l c = itself (While at test body) l (texts body) (lines body) refl (line_is body l) c
line_is (Repeat at count body) l c = itself (Repeat at count body) l (texts body) (lines body) refl (line_is body l) c
line_is (Forever at body) l c = itself (Forever at body) l (texts body) (lines body) refl (line_is body l) c
line_is (Wait at falling) l c = itself (Wait at falling) l [] [] refl (no_line l []) c
line_is (Enable at t ins outs) l c = itself (Enable at t ins outs) l [] [] refl (no_line l []) c
line_is (Disable at m) l c = itself (Disable at m) l [] [] refl (no_line l []) c
line_is (Host at f ins result outs) l c = itself (Host at f ins result outs) l [] [] refl (no_line l []) c

-- what has an expression of its own has a line
pub has_own : (x : Statement) (e : Expr) → Contains (own_expressions x) e → is_real x ≡ true
has_own Skip e c = absurd (con_nil e c)
has_own (Seq a b) e c = absurd (con_nil e c)
has_own (Arm on labels body others) e c = absurd (con_nil e c)
has_own Null e c = refl
has_own (Block at mark body) e c = refl
has_own (Assign at to v held) e c = refl
has_own (If at test a b) e c = refl
has_own (Case at on arms) e c = refl
has_own (For at v first test next body) e c = refl
has_own (While at test body) e c = refl
has_own (Repeat at count body) e c = refl
has_own (Forever at body) e c = refl
has_own (Wait at falling) e c = refl
has_own (Enable at t ins outs) e c = refl
has_own (Disable at m) e c = refl
has_own (Host at f ins result outs) e c = refl

-- ---- nodes

-- the nodes of expressions
abbrev pub plain_nodes : List Expr → List Node
plain_nodes es = map node_of (flat_map nodes_of es)

mutual
  pub named_is : (e : Expr) → named e ≡ map node_of (nodes_of e)
  named_is (Number s b) = refl
  named_is (NetValue s n) = refl
  named_is (Variable s v) = refl
  named_is (MemoryWord s v i) = ap (λ l. node.Word v ∷ l) (named_is i)
  named_is (Select s e r lsb) = ap (λ l. node.Other ∷ l) (ap₂ (λ x y. x ++ y) (named_is e) (range_is r) ∙ sym (map-append node_of (nodes_of e) (range_nodes r)))
  named_is (Unary s op e) = ap (λ l. node.Other ∷ l) (named_is e)
  named_is (Binary s op a b) = ap (λ l. node.Other ∷ l) (ap₂ (λ x y. x ++ y) (named_is a) (named_is b) ∙ sym (map-append node_of (nodes_of a) (nodes_of b)))
  named_is (Choice s c a b) =
      ap (λ l. node.Other ∷ l)
      (ap₂ (λ x y. x ++ y) (ap₂ (λ x y. x ++ y) (named_is c) (named_is a) ∙ sym (map-append node_of (nodes_of c) (nodes_of a))) (named_is b)
      ∙ sym (map-append node_of (nodes_of c ++ nodes_of a) (nodes_of b)))
  named_is (Concat s es) = ap (λ l. node.Other ∷ l) (all_is es)
  named_is (Copies s n e) = ap (λ l. node.Other ∷ l) (named_is e)
  named_is (Sign s e) = ap (λ l. node.Other ∷ l) (named_is e)
  named_is (Resize s e) = ap (λ l. node.Resize ∷ l) (named_is e)
  named_is (Call s f es) = ap (λ l. node_of (Call s f es) ∷ l) (all_is es)

  all_is : (es : Exprs) → named_all es ≡ map node_of (nodes_of_all es)
  all_is NoExpr = refl
  all_is (More e es) = ap₂ (λ x y. x ++ y) (named_is e) (all_is es) ∙ sym (map-append node_of (nodes_of e) (nodes_of_all es))

  range_is : (r : Range) → named_range r ≡ map node_of (range_nodes r)
  range_is (Bit e) = named_is e
  range_is (Part high low) = refl
  range_is (Up e w) = named_is e
  range_is (Down e w) = named_is e

plain_one : (e : Expr) → named e ≡ plain_nodes (e ∷ [])
plain_one e = named_is e ∙ ap (map node_of) (sym (nil_end (nodes_of e)))

pub one_named : (e : Expr) → named e ≡ plain_nodes (e ∷ [])
one_named = plain_one

pub only_one : (e f : Expr) → Contains (e ∷ []) f → e ≡ f
only_one e f c = go (con_cases e f [] c)
  where
    go : (e ≡ f) ⊎ Contains [] f → e ≡ f
    go (inl i) = i
    go (inr k) = absurd (con_nil f k)

plain_more : (es fs : List Expr) → plain_nodes (es ++ fs) ≡ plain_nodes es ++ plain_nodes fs
plain_more es fs = ap (map node_of) (flat_map-append nodes_of es fs) ∙ map-append node_of (flat_map nodes_of es) (flat_map nodes_of fs)

joins : (xs ys : List Node) (es fs : List Expr) → xs ≡ plain_nodes es → ys ≡ plain_nodes fs → xs ++ ys ≡ plain_nodes (es ++ fs)
joins xs ys es fs e f = ap₂ (λ x y. x ++ y) e f ∙ sym (plain_more es fs)

list_is : (es : List Expr) → named_all (exprs_of es) ≡ plain_nodes es
list_is [] = refl
list_is (e ∷ es) = joins (named e) (named_all (exprs_of es)) (e ∷ []) es (one_named e) (list_is es)

index_is : (r : Range) → named_range r ≡ plain_nodes (range_indexes r)
index_is (Bit e) = one_named e
index_is (Part high low) = refl
index_is (Up e w) = one_named e
index_is (Down e w) = one_named e

indexes_are : (t : Lvalue) → indexes_named t ≡ plain_nodes (target_indexes t)
indexes_are (ToVariable v) = refl
indexes_are (ToPart v r) = index_is r
indexes_are (ToWord v i) = one_named i
indexes_are (ToWordPart v i r) = joins (named i) (named_range r) (i ∷ []) (range_indexes r) (one_named i) (index_is r)
indexes_are (Both a b) = joins (indexes_named a) (indexes_named b) (target_indexes a) (target_indexes b) (indexes_are a) (indexes_are b)
indexes_are Nowhere = refl

outs_are : (ts : List Lvalue) → indexes_named (parts_of ts) ≡ plain_nodes (flat_map target_indexes ts)
outs_are [] = refl
outs_are (t ∷ ts) = joins (indexes_named t) (indexes_named (parts_of ts)) (target_indexes t) (flat_map target_indexes ts) (indexes_are t) (outs_are ts)

labels_are : (s : Statement) → labels_named s ≡ plain_nodes (labels_in s)
labels_are (Arm on labels body others) = joins (named_all (exprs_of labels)) (labels_named others) labels (labels_in others) (list_is labels) (labels_are others)
labels_are Null = refl
labels_are Skip = refl
labels_are (Seq a b) = refl
labels_are (Block at mark body) = refl
labels_are (Assign at to e held) = refl
labels_are (If at test a b) = refl
labels_are (Case at on arms) = refl
labels_are (For at v first test next body) = refl
labels_are (While at test body) = refl
labels_are (Repeat at count body) = refl
labels_are (Forever at body) = refl
labels_are (Wait at falling) = refl
labels_are (Enable at t ins outs) = refl
labels_are (Disable at m) = refl
labels_are (Host at f ins result outs) = refl

host_are : (ins : List Expr) (result : Option Lvalue) (outs : List Lvalue) →
    named_all (exprs_of ins) ++ result_named result ++ indexes_named (parts_of outs) ≡ plain_nodes (ins ++ flat_map target_indexes (listed result ++ outs))
host_are ins None outs = ap (λ l. l ++ indexes_named (parts_of outs)) (nil_end (named_all (exprs_of ins))) ∙ joins (named_all (exprs_of ins)) (indexes_named (parts_of outs)) ins (flat_map target_indexes outs) (list_is ins) (outs_are outs)
host_are ins (Some t) outs =
    append_assoc (named_all (exprs_of ins)) (indexes_named t) (indexes_named (parts_of outs))
    ∙ joins (named_all (exprs_of ins)) (indexes_named t ++ indexes_named (parts_of outs)) ins (target_indexes t ++ flat_map target_indexes outs) (list_is ins)
    (joins (indexes_named t) (indexes_named (parts_of outs)) (target_indexes t) (flat_map target_indexes outs) (indexes_are t) (outs_are outs))

pub own_is : (x : Statement) → own_named x ≡ plain_nodes (own_expressions x)
own_is (Assign at to e held) = joins (indexes_named to) (named e) (target_indexes to) (e ∷ []) (indexes_are to) (one_named e)
own_is (If at test a b) = one_named test
own_is (Case at on arms) = joins (named on) (labels_named arms) (on ∷ []) (labels_in arms) (one_named on) (labels_are arms)
own_is (For at v first test next body) =
    joins (named first ++ named test) (named next) (first ∷ test ∷ []) (next ∷ []) (joins (named first) (named test) (first ∷ []) (test ∷ []) (one_named first) (one_named test)) (one_named next)
own_is (While at test body) = one_named test
own_is (Repeat at count body) = one_named count
own_is (Enable at t ins outs) = joins (named_all (exprs_of ins)) (indexes_named (parts_of outs)) ins (flat_map target_indexes outs) (list_is ins) (outs_are outs)
own_is (Host at f ins result outs) = host_are ins result outs
own_is Null = refl
own_is Skip = refl
own_is (Seq a b) = refl
own_is (Block at mark body) = refl
own_is (Arm on labels body others) = refl
own_is (Forever at body) = refl
own_is (Wait at falling) = refl
own_is (Disable at m) = refl

-- ---- what is stored to

outs_stored : (ts : List Lvalue) → target_variables (parts_of ts) ≡ flat_map target_variables ts
outs_stored [] = refl
outs_stored (t ∷ ts) = ap (λ l. target_variables t ++ l) (outs_stored ts)

host_stored : (result : Option Lvalue) (outs : List Lvalue) → result_stored result ++ target_variables (parts_of outs) ≡ flat_map target_variables (listed result ++ outs)
host_stored None outs = outs_stored outs
host_stored (Some t) outs = ap (λ l. target_variables t ++ l) (outs_stored outs)

pub stored_is : (x : Statement) → own_stored x ≡ flat_map target_variables (own_targets x)
stored_is (Assign at to e held) = sym (nil_end (target_variables to))
stored_is (For at v first test next body) = refl
stored_is (Enable at t ins outs) = outs_stored outs
stored_is (Host at f ins result outs) = host_stored result outs
stored_is Null = refl
stored_is Skip = refl
stored_is (Seq a b) = refl
stored_is (Block at mark body) = refl
stored_is (If at test a b) = refl
stored_is (Case at on arms) = refl
stored_is (Arm on labels body others) = refl
stored_is (While at test body) = refl
stored_is (Repeat at count body) = refl
stored_is (Forever at body) = refl
stored_is (Wait at falling) = refl
stored_is (Disable at m) = refl
