-- What a script has said before its first piece, and the statements of its last session.
use Rattle.std.specs.Prelude.{ℕ, List, [], ◌∷◌, ◌++◌}
use Rattle.sa_script.specs.declared.said.Said.{Said}
use Rattle.sa_script.specs.declared.said.Stage.TheVariants.{SetUp}

-- before any piece
abbrev pub nothing_said : Said
nothing_said =
    record {
      stage = SetUp;
      tables = [];
      quantum = 64;
      turns = 1000000;
      sessions = [];
      schedule = [];
    }

-- one more statement of the last session
abbrev pub with_statement : List (List (List ℕ)) → List ℕ → List (List (List ℕ))
with_statement [] text = []
with_statement (last ∷ []) text = (last ++ text ∷ []) ∷ []
with_statement (session ∷ next ∷ sessions) text = session ∷ with_statement (next ∷ sessions) text

-- the statements of the last session
abbrev pub last_session : List (List (List ℕ)) → List (List ℕ)
last_session [] = []
last_session (last ∷ []) = last
last_session (session ∷ next ∷ sessions) = last_session (next ∷ sessions)
