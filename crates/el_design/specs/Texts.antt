-- The statements of a text, as a list: a statement, and all that stand in it. This project's own.
use Rattle.std.specs.Prelude.{List, [], ◌∷◌, ◌++◌}
use Rattle.el_design.specs.Plain.{Statement, Null, Skip, Seq, Block, Assign, If, Case, Arm, For, While, Repeat, Forever, Wait, Enable, Disable, Host}

-- itself first, each before those that stand in it; the body of an enabled task stands elsewhere
abbrev pub texts : Statement → List Statement
texts Null = Null ∷ []
texts Skip = Skip ∷ []
texts (Seq a b) = Seq a b ∷ texts a ++ texts b
texts (Block at mark body) = Block at mark body ∷ texts body
texts (Assign at to e held) = Assign at to e held ∷ []
texts (If at test a b) = If at test a b ∷ texts a ++ texts b
texts (Case at on arms) = Case at on arms ∷ texts arms
texts (Arm on labels body others) = Arm on labels body others ∷ texts body ++ texts others
texts (For at v first test next body) = For at v first test next body ∷ texts body
texts (While at test body) = While at test body ∷ texts body
texts (Repeat at count body) = Repeat at count body ∷ texts body
texts (Forever at body) = Forever at body ∷ texts body
texts (Wait at falling) = Wait at falling ∷ []
texts (Enable at t ins outs) = Enable at t ins outs ∷ []
texts (Disable at m) = Disable at m ∷ []
texts (Host at f ins result outs) = Host at f ins result outs ∷ []
