-- What an index of names has after a name more was put into it.
use Rattle.std.proofs.Common.{◌≡◌, ℕ, List, Bool, true, false, cond, Option, Some, None, Bor, refl, sym, ap, ◌∙◌}
use Rattle.std.proofs.lemmas.Map.Text.{hash_map_updates_str}
use Rattle.std.proofs.lemmas.Slice.Eq.{bytes_eq-Decides}
use Rattle.std.specs.Option.{option_or}
use Rattle.std.specs.Str.{bytes_eq}
use Rattle.indexmap.specs.IndexMap.{IndexMap, UpdatesBy, get_by}
use Rattle.sa_table.specs.Create.{same_name}

-- The value under a name changes as this says, and no other.
module _ {V S : Type 0} (name : List ℕ) (before after : IndexMap (Bor (List ℕ)) V S) (value : V)
    (updates : UpdatesBy (λ x y. bytes_eq x.now y.now) (λ key. bytes_eq name key.now) before after (Some value)) where
  pub put_by : (change : Option V → Option V) → Some value ≡ change (get_by (λ key. bytes_eq name key.now) before)
      → (other : List ℕ) → get_by (λ key. bytes_eq other key.now) after
      ≡ cond (same_name name other) (change (get_by (λ key. bytes_eq other key.now) before)) (get_by (λ key. bytes_eq other key.now) before)
  put_by change is other = hash_map_updates_str name before after (Some value) updates other ∙ by (bytes_eq name other) refl
    where
      kept : List ℕ → Option V
      kept bytes = get_by (λ key. bytes_eq bytes key.now) before

      by : (same : Bool) → bytes_eq name other ≡ same → cond same (Some value) (kept other) ≡ cond same (change (kept other)) (kept other)
      by true e = is ∙ ap (λ bytes. change (kept bytes)) ((bytes_eq-Decides name other).0 e)
      by false e = refl

  -- a name that nothing stood under
  pub put_new : get_by (λ key. bytes_eq name key.now) before ≡ None
      → (other : List ℕ) → get_by (λ key. bytes_eq other key.now) after
      ≡ option_or (get_by (λ key. bytes_eq other key.now) before) (cond (same_name name other) (Some value) None)
  put_new none other = hash_map_updates_str name before after (Some value) updates other ∙ by (bytes_eq name other) refl
    where
      kept : List ℕ → Option V
      kept bytes = get_by (λ key. bytes_eq bytes key.now) before

      or_none : (found : Option V) → found ≡ option_or found None
      or_none None = refl
      or_none (Some it) = refl

      by : (same : Bool) → bytes_eq name other ≡ same → cond same (Some value) (kept other) ≡ option_or (kept other) (cond same (Some value) None)
      by true e = ap (λ found. option_or found (Some value)) (sym none ∙ ap kept ((bytes_eq-Decides name other).0 e))
      by false e = or_none (kept other)
