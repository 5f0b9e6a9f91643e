use Rattle.std.proofs.Common.{◌≡◌, ◌≢◌, ◌∙◌, ◌<◌, sym, subst, get_or, set, length, true, below_more, arith}
use Rattle.std.proofs.lemmas.List.{get_or_read, get_or_default, get_or-set_same, get_or-set_other, length-set}
use Rattle.sa_table.specs.declared.def.KeyDef.{KeyDef}
use Rattle.sa_table.specs.declared.index.Index.{Index}
use Rattle.sa_table.specs.Table.{is_unique, key_tuple}
use Rattle.sa_table.specs.inner.Digest.{digest_of}
use Rattle.sa_table.specs.inner.Index.{AddsDigest}
use Rattle.sa_table.proofs.keys.push_digests.Goals as goal

pub loop-position-preserved : goal.loop-position-preserved
loop-position-preserved c =
    let keys = c.args.keys.now in
    let row = c.args.row.now in
    let old = c.args.indexes.now in
    let now = c.loop-position.indexes in
    let i = c.loop-position.position in
    let added = c.push_digest.new.index in
    let key_there : i < length keys = c.loop-position-test.true in
    let index_there : i < length now = omega (arith, c.loop-position.invariant.each_one, c.requires.each_one) in
    record {
      each_one = length-set now i added ∙ c.loop-position.invariant.each_one;
      added = λ k key index h.
          below_more (λ k. (key : KeyDef) (index : Index) → is_unique (get_or keys k key) ≡ true → AddsDigest (get_or old k index) (get_or (set now i added) k index) c.args.number (digest_of (key_tuple (get_or keys k key).parts row))) i
          (λ k before key index unique.
          let apart : k ≢ i = omega arith in
          subst (λ at. AddsDigest (get_or old k index) at c.args.number (digest_of (key_tuple (get_or keys k key).parts row))) (sym (get_or-set_other now i k added index apart)) (c.loop-position.invariant.added k key index before unique))
          (λ key index.
          subst (λ at. is_unique (get_or keys i key) ≡ true → AddsDigest (get_or old i index) at c.args.number (digest_of (key_tuple (get_or keys i key).parts row))) (sym (get_or-set_same now i added index index_there))
          (subst (λ at. is_unique at ≡ true → AddsDigest (get_or old i index) added c.args.number (digest_of (key_tuple at.parts row))) (get_or_read keys i _ key_there c.index-keys-position.is key)
          (subst (λ was. is_unique c.index-keys-position.result ≡ true → AddsDigest was added c.args.number (digest_of (key_tuple c.index-keys-position.result.parts row)))
          (get_or_default now i c.index-indexes-position.result index index_there ∙ c.loop-position.invariant.left i index (omega arith))
          c.push_digest.ensures)))
          k h key index;
      left = λ k index h. let apart : k ≢ i = omega arith in get_or-set_other now i k added index apart ∙ c.loop-position.invariant.left k index (omega arith);
    }

pub returns : goal.returns
returns c = record {
  each_one = c.loop-position.invariant.each_one;
  each = λ k key index h unique. c.loop-position.invariant.added k key index (omega arith) unique;
}
