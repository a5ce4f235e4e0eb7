use Rattle.std.proofs.Common.{◌≡◌, drop, map}
use Rattle.std.specs.Prelude.{string_bytes}
use Rattle.xt_base.specs.Outside.{bytes_of}
use Rattle.xt_base.proofs.memory.find.Given as goal

-- no file so far has the name
abbrev pub invariant-loop-file : goal.invariant-loop-file
invariant-loop-file l =
    bytes_of (map (λ f. (string_bytes f.name, f.bytes.items)) l.files) l.name
    ≡ bytes_of (map (λ f. (string_bytes f.name, f.bytes.items)) (drop l.file-index l.files)) l.name
