-- What a token is where the parser takes it for something.
use Rattle.std.proofs.Common.{◌≡◌, ℕ, ◌+◌, List, Option, Some, None, Bool, true, false, slice_get, refl, sym, ap, subst, arith}
use Rattle.vl_tree.specs.declared.terminals.Terminal.{Terminal}
use Rattle.vl_tree.specs.declared.terminals.Terminal.TheVariants as lex
use Rattle.vl_tree.specs.declared.statements.Edge.{Edge}
use Rattle.vl_tree.specs.declared.statements.Edge.TheVariants as edge
use Rattle.vl_tree.specs.declared.modules.Direction.{Direction}
use Rattle.vl_tree.specs.declared.modules.Direction.TheVariants as direction
use Rattle.vl_tree.specs.declared.operators.Sign.{Sign}
use Rattle.vl_tree.specs.declared.operators.Sign.TheVariants as sign
use Rattle.vl_tree.specs.declared.routines.IntWord.{IntWord}
use Rattle.vl_tree.specs.declared.routines.IntWord.TheVariants as word
use Rattle.vl_tree.specs.declared.modules.ParamWord.{ParamWord}
use Rattle.vl_tree.specs.declared.modules.ParamWord.TheVariants as param
use Rattle.vl_tree.specs.Places.{At, IsName, name_in}
use Rattle.vl_tree.specs.Statements.{IsEdge}
use Rattle.vl_tree.specs.Routines.{IsDirection, IsIntWord, IsSign}
use Rattle.vl_tree.specs.Modules.{IsParamWord}
use Rattle.vl_parse.specs.declared.classes.Opening.{Opening}
use Rattle.vl_parse.specs.declared.classes.Opening.TheVariants as opening
use Rattle.vl_parse.specs.declared.classes.ItemStart.{ItemStart}
use Rattle.vl_parse.specs.declared.classes.ItemStart.TheVariants as start
use Rattle.vl_parse.specs.Statements.{opening_of, edge_of}
use Rattle.vl_parse.specs.Routines.{direction_of, word_of, sign_of}
use Rattle.vl_parse.specs.Modules.{item_start}

pub opens_null : (o : Option Terminal) → opening_of o ≡ opening.Null → o ≡ Some lex.Semicolon
opens_null (Some lex.Semicolon) e = refl
opens_null _ e = cc

pub opens_if : (o : Option Terminal) → opening_of o ≡ opening.If → o ≡ Some lex.If
opens_if (Some lex.If) e = refl
opens_if _ e = cc

pub opens_case : (o : Option Terminal) → opening_of o ≡ opening.Case → o ≡ Some lex.Case
opens_case (Some lex.Case) e = refl
opens_case _ e = cc

pub opens_for : (o : Option Terminal) → opening_of o ≡ opening.For → o ≡ Some lex.For
opens_for (Some lex.For) e = refl
opens_for _ e = cc

pub opens_while : (o : Option Terminal) → opening_of o ≡ opening.While → o ≡ Some lex.While
opens_while (Some lex.While) e = refl
opens_while _ e = cc

pub opens_repeat : (o : Option Terminal) → opening_of o ≡ opening.Repeat → o ≡ Some lex.Repeat
opens_repeat (Some lex.Repeat) e = refl
opens_repeat _ e = cc

pub opens_forever : (o : Option Terminal) → opening_of o ≡ opening.Forever → o ≡ Some lex.Forever
opens_forever (Some lex.Forever) e = refl
opens_forever _ e = cc

pub opens_block : (o : Option Terminal) → opening_of o ≡ opening.Block → o ≡ Some lex.Begin
opens_block (Some lex.Begin) e = refl
opens_block _ e = cc

pub opens_wait : (o : Option Terminal) → opening_of o ≡ opening.Wait → o ≡ Some lex.AtSign
opens_wait (Some lex.AtSign) e = refl
opens_wait _ e = cc

pub opens_disable : (o : Option Terminal) → opening_of o ≡ opening.Disable → o ≡ Some lex.Disable
opens_disable (Some lex.Disable) e = refl
opens_disable _ e = cc

pub opens_name : (o : Option Terminal) → opening_of o ≡ opening.Name → name_in o ≡ true
opens_name (Some lex.Identifier) e = refl
opens_name (Some lex.Import) e = refl
opens_name (Some lex.Context) e = refl
opens_name (Some lex.Void) e = refl
opens_name (Some lex.Bit) e = refl
opens_name (Some lex.Byte) e = refl
opens_name (Some lex.Shortint) e = refl
opens_name (Some lex.Int) e = refl
opens_name (Some lex.Longint) e = refl
opens_name _ e = cc

pub edge_is : (ls : List Terminal) (i : ℕ) (o : Option Terminal) (e : Edge) → slice_get ls i ≡ o → edge_of o ≡ Some e → IsEdge ls i (i + 1) e
edge_is ls i (Some lex.Posedge) e h r = let s : edge.Posedge ≡ e = cc in subst (IsEdge ls i (i + 1)) s (IsEdge.posedge h)
edge_is ls i (Some lex.Negedge) e h r = let s : edge.Negedge ≡ e = cc in subst (IsEdge ls i (i + 1)) s (IsEdge.negedge h)
edge_is ls i _ e h r = cc

pub direction_is : (ls : List Terminal) (i : ℕ) (o : Option Terminal) (d : Direction) → slice_get ls i ≡ o → direction_of o ≡ Some d → IsDirection ls i (i + 1) d
direction_is ls i (Some lex.Input) d h r = let s : direction.Input ≡ d = cc in subst (IsDirection ls i (i + 1)) s (IsDirection.input h)
direction_is ls i (Some lex.Output) d h r = let s : direction.Output ≡ d = cc in subst (IsDirection ls i (i + 1)) s (IsDirection.output h)
direction_is ls i _ d h r = cc

pub word_is : (ls : List Terminal) (i : ℕ) (o : Option Terminal) (w : IntWord) → slice_get ls i ≡ o → word_of o ≡ Some w → IsIntWord ls i (i + 1) w
word_is ls i (Some lex.Byte) w h r = let s : word.Byte ≡ w = cc in subst (IsIntWord ls i (i + 1)) s (IsIntWord.byte h)
word_is ls i (Some lex.Shortint) w h r = let s : word.Shortint ≡ w = cc in subst (IsIntWord ls i (i + 1)) s (IsIntWord.shortint h)
word_is ls i (Some lex.Int) w h r = let s : word.Int ≡ w = cc in subst (IsIntWord ls i (i + 1)) s (IsIntWord.int h)
word_is ls i (Some lex.Longint) w h r = let s : word.Longint ≡ w = cc in subst (IsIntWord ls i (i + 1)) s (IsIntWord.longint h)
word_is ls i _ w h r = cc

pub sign_is : (ls : List Terminal) (i : ℕ) (o : Option Terminal) (s : Sign) → slice_get ls i ≡ o → sign_of o ≡ Some s → IsSign ls i (i + 1) s
sign_is ls i (Some lex.Signed) s h r = let t : sign.Signed ≡ s = cc in subst (IsSign ls i (i + 1)) t (IsSign.signed h)
sign_is ls i (Some lex.Unsigned) s h r = let t : sign.Unsigned ≡ s = cc in subst (IsSign ls i (i + 1)) t (IsSign.unsigned h)
sign_is ls i _ s h r = cc

pub starts_params : (ls : List Terminal) (i : ℕ) (o : Option Terminal) (b : Bool) (w : ParamWord) → slice_get ls i ≡ o → item_start o b ≡ start.Params w → IsParamWord ls i (i + 1) w
starts_params ls i (Some lex.Parameter) b w h r = let s : param.Parameter ≡ w = cc in subst (IsParamWord ls i (i + 1)) s (IsParamWord.parameter h)
starts_params ls i (Some lex.Localparam) b w h r = let s : param.Localparam ≡ w = cc in subst (IsParamWord ls i (i + 1)) s (IsParamWord.localparam h)
starts_params ls i (Some lex.Import) true w h r = cc
starts_params ls i (Some lex.Import) false w h r = cc
starts_params ls i _ b w h r = cc

pub starts_wires : (o : Option Terminal) (b : Bool) → item_start o b ≡ start.Wires → o ≡ Some lex.Wire
starts_wires (Some lex.Wire) b e = refl
starts_wires (Some lex.Import) true e = cc
starts_wires (Some lex.Import) false e = cc
starts_wires _ b e = cc

pub starts_regs : (o : Option Terminal) (b : Bool) → item_start o b ≡ start.Regs → o ≡ Some lex.Reg
starts_regs (Some lex.Reg) b e = refl
starts_regs (Some lex.Import) true e = cc
starts_regs (Some lex.Import) false e = cc
starts_regs _ b e = cc

pub starts_integers : (o : Option Terminal) (b : Bool) → item_start o b ≡ start.Integers → o ≡ Some lex.Integer
starts_integers (Some lex.Integer) b e = refl
starts_integers (Some lex.Import) true e = cc
starts_integers (Some lex.Import) false e = cc
starts_integers _ b e = cc

pub starts_assigns : (o : Option Terminal) (b : Bool) → item_start o b ≡ start.Assigns → o ≡ Some lex.Assign
starts_assigns (Some lex.Assign) b e = refl
starts_assigns (Some lex.Import) true e = cc
starts_assigns (Some lex.Import) false e = cc
starts_assigns _ b e = cc

pub starts_always : (o : Option Terminal) (b : Bool) → item_start o b ≡ start.Always → o ≡ Some lex.Always
starts_always (Some lex.Always) b e = refl
starts_always (Some lex.Import) true e = cc
starts_always (Some lex.Import) false e = cc
starts_always _ b e = cc

pub starts_initial : (o : Option Terminal) (b : Bool) → item_start o b ≡ start.Initial → o ≡ Some lex.Initial
starts_initial (Some lex.Initial) b e = refl
starts_initial (Some lex.Import) true e = cc
starts_initial (Some lex.Import) false e = cc
starts_initial _ b e = cc

pub starts_instances : (o : Option Terminal) (b : Bool) → item_start o b ≡ start.Instances → name_in o ≡ true
starts_instances (Some lex.Identifier) b e = refl
starts_instances (Some lex.Import) true e = cc
starts_instances (Some lex.Import) false e = refl
starts_instances (Some lex.Context) b e = refl
starts_instances (Some lex.Void) b e = refl
starts_instances (Some lex.Bit) b e = refl
starts_instances (Some lex.Byte) b e = refl
starts_instances (Some lex.Shortint) b e = refl
starts_instances (Some lex.Int) b e = refl
starts_instances (Some lex.Longint) b e = refl
starts_instances _ b e = cc
