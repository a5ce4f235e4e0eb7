-- What the tokens of a text spell, and where they stand. All of it is this project's own.
use Rattle.std.specs.Prelude.{ℕ, List, map, slice_range}
use Rattle.xt_base.specs.declared.refusals.Place.{Place}
use Rattle.vl_pre.specs.Text.{Expanded, place_of}
use Rattle.vl_lex.specs.declared.kinds.Token.{Token}

-- the bytes of a token of a text
abbrev pub spelling : List ℕ → Token → List ℕ
spelling text t = slice_range text t.start t.end

-- the bytes of each token
abbrev pub spellings_of : List ℕ → List Token → List (List ℕ)
spellings_of text ts = map (spelling text) ts

-- the file and line of a token, which are those of its first byte, in instance 0
abbrev pub token_place : Expanded → Token → Place
token_place text t = place_of text t.start

-- the place of each token
abbrev pub places_of : Expanded → List Token → List Place
places_of text ts = map (token_place text) ts
