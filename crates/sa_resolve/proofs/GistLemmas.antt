-- What is kept of the parts of a node, one part after another.
use Rattle.std.proofs.Common.{◌≡◌, ℕ, List, [], ◌∷◌, ◌++◌, Option, append-nil, ap, ◌∙◌}
use Rattle.std.proofs.lemmas.List.Concat.{flat_map-append}
use Rattle.std.specs.List.{flat_map}
use Rattle.sa_resolve.specs.Fault.{Fault, least}
use Rattle.sa_resolve.specs.Reading.{Reading}
use Rattle.sa_resolve.specs.inner.Gist.{PartsGist, parts_of_list, with_part, gist_of}
use Rattle.sa_resolve.specs.inner.Least.{nearer, nearest, sooner}
use Rattle.sa_resolve.proofs.LeastLemmas.{least-append, nearest-append}

-- the least fault of a list and one part more
push_least : (f : Reading → List Fault) (readings : List Reading) (one : Reading)
    → least (flat_map f (readings ++ one ∷ []))
    ≡ sooner (least (flat_map f readings)) (least (f one))
push_least f readings one =
    ap least (flat_map-append f readings (one ∷ []))
    ∙ least-append (flat_map f readings) (f one ++ [])
    ∙ ap (λ faults. sooner (least (flat_map f readings)) (least faults)) (append-nil (f one))

push_nearest : (f : Reading → List ℕ) (readings : List Reading) (one : Reading)
    → nearest (flat_map f (readings ++ one ∷ []))
    ≡ nearer (nearest (flat_map f readings)) (nearest (f one))
push_nearest f readings one =
    ap nearest (flat_map-append f readings (one ∷ []))
    ∙ nearest-append (flat_map f readings) (f one ++ [])
    ∙ ap (λ places. nearer (nearest (flat_map f readings)) (nearest places)) (append-nil (f one))

made : Option ℕ → Option Fault → Option Fault → PartsGist
made call fault wrong = record { call = call; fault = fault; wrong = wrong }

-- With one part more. Where it has to be a value or a condition, `wrong` is `no_value` or `no_condition`.
pub parts-push : (wrong : Reading → List Fault) (readings : List Reading) (one : Reading)
    → parts_of_list wrong (readings ++ one ∷ [])
    ≡ with_part (parts_of_list wrong readings) (gist_of one) (least (wrong one))
unfolding made
parts-push wrong readings one =
    ap (λ call. made call (least (flat_map (λ (one : Reading). one.faults) (readings ++ one ∷ [])))
    (least (flat_map wrong (readings ++ one ∷ []))))
    (push_nearest (λ (one : Reading). one.calls) readings one)
    ∙ ap (λ fault. made (nearer (nearest (flat_map (λ (one : Reading). one.calls) readings))
    (nearest one.calls)) fault (least (flat_map wrong (readings ++ one ∷ []))))
    (push_least (λ (one : Reading). one.faults) readings one)
    ∙ ap (λ fault. made (nearer (nearest (flat_map (λ (one : Reading). one.calls) readings))
    (nearest one.calls)) (sooner (least (flat_map (λ (one : Reading). one.faults) readings))
    (least one.faults)) fault)
    (push_least wrong readings one)
