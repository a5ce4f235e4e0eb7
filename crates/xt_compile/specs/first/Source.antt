-- The conditions on a source of the form that is read today. All of it is this project's own.
use Rattle.std.specs.Prelude.{◌≡◌, ◌≢◌, ◌≤◌, ◌<◌, ◌+◌, ◌*◌, ◌^◌, ℕ, Bool, true, false, List, map, length, sum_by, slice_get, Some, IsTrue, All, AllPairs}
use Rattle.std.specs.List.{list_any}
use Rattle.xt_base.specs.declared.TheConstants.{MAX_WIDTH}
use Rattle.nt_core.specs.Names.{is_pin_name}
use Rattle.xt_compile.specs.declared.first.source.Source.{Source}
use Rattle.xt_compile.specs.declared.first.source.Port.{Port}
use Rattle.xt_compile.specs.declared.first.source.Sum.{Sum}
use Rattle.xt_compile.specs.declared.first.source.Term.{Term}
use Rattle.xt_compile.specs.declared.first.source.Term.TheVariants.{Input, Output, Number}
use Rattle.xt_compile.specs.declared.first.source.Step.{Step}
use Rattle.xt_compile.specs.declared.first.source.Step.TheVariants.{Wait, Assign}

-- a port has a pin's name, and its width is in range
pub record IsPort (p : Port) : Type 0 where
  pub name : IsTrue (is_pin_name p.name)
  pub positive : 1 ≤ p.width
  pub within : p.width ≤ MAX_WIDTH

-- the widths of ports, in bits
abbrev pub widths : List Port → List ℕ
widths = map (λ p. p.width)

-- the names of the inputs and of the outputs are distinct
pub record AreDistinct (ins outs : List Port) : Type 0 where
  pub inputs : AllPairs (λ a b. a.name ≢ b.name) ins
  pub outputs : AllPairs (λ a b. a.name ≢ b.name) outs
  pub across : All (λ a. All (λ b. a.name ≢ b.name) outs) ins

-- a term is there, and has the width; a number's bits lie in it
abbrev pub IsTerm : List Port → List Port → ℕ → Term → Type 0
IsTerm ins outs w (Input i) = slice_get (widths ins) i ≡ Some w
IsTerm ins outs w (Output i) = slice_get (widths outs) i ≡ Some w
IsTerm ins outs w (Number k) = (k.width ≡ w) × (k.value < 2 ^ w)

-- all terms of a sum have its width
pub record IsSum (ins outs : List Port) (s : Sum) : Type 0 where
  pub first : IsTerm ins outs s.width s.first
  pub more : All (IsTerm ins outs s.width) s.more

-- an assignment gives an output a sum as wide as it
abbrev pub IsStep : List Port → List Port → Step → Type 0
IsStep ins outs (Wait at) = Unit {0}
IsStep ins outs (Assign at i s) = (slice_get (widths outs) i ≡ Some s.width) × IsSum ins outs s

-- the ports of a module
pub record ArePorts (ins outs : List Port) : Type 0 where
  pub inputs : All IsPort ins
  pub outputs : All IsPort outs
  pub distinct : AreDistinct ins outs

-- how many tokens a statement has at least: `@(posedge clk);` has 6, and `y <= a + b + c;` has 4 and 2 for each `+`
abbrev pub tokens_of : Step → ℕ
tokens_of (Wait at) = 6
tokens_of (Assign at i s) = 4 + 2 * length s.more

-- a source has so many tokens at most
abbrev pub most_tokens : ℕ
most_tokens = 2048

-- a source of the form
pub record IsSource (s : Source) : Type 0 where
  pub ports : ArePorts s.inputs s.outputs
  pub steps : All (IsStep s.inputs s.outputs) s.steps
  pub size : sum_by tokens_of s.steps ≤ most_tokens

-- a source's process waits
abbrev pub is_wait : Step → Bool
is_wait (Wait at) = true
is_wait (Assign at i s) = false

abbrev pub waits : Source → Bool
waits s = list_any is_wait s.steps
