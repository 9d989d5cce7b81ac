-- The order of the tree is total, and its keys tie where they are equal.
use Rattle.std.proofs.Common.{◌≡◌, ℕ, false, true≢false, List, refl, sym, ap, ◌∙◌}
use Rattle.std.specs.declared.cmp.Ordering.{Ordering}
use Rattle.std.specs.declared.cmp.Ordering.TheVariants.{Less, Equal, Greater}
use Rattle.std.specs.Ordering.{nat_cmp, is_eq, eq_by_cmp, ordering_then}
use Rattle.std.specs.Cmp.{IsTotalOrder, nat_cmp_total, on_total, then_total}
use Rattle.std.proofs.lemmas.Cmp.{tied_itself}
use Rattle.std.specs.Cmp.Lexicographic.{slice_cmp, nat_list_cmp_total}
use Rattle.std.specs.FinMap.{slice_cmp-IsAntisymmetric, nat_cmp-IsAntisymmetric}
use Rattle.store_tree.specs.KeyOrder.{digest_of, key_cmp}

pub key_cmp_total : IsTotalOrder key_cmp
unfolding key_cmp
key_cmp_total = then_total (on_total digest_of nat_cmp_total) nat_list_cmp_total

second_equal : (o p : Ordering) → ordering_then o p ≡ Equal → p ≡ Equal
second_equal Less p e = absurd (true≢false (sym (ap is_eq e)))
second_equal Equal p e = e
second_equal Greater p e = absurd (true≢false (sym (ap is_eq e)))

never_tied : (o p : Ordering) → is_eq p ≡ false → is_eq (ordering_then o p) ≡ false
never_tied Less p e = refl
never_tied Equal p e = e
never_tied Greater p e = refl

-- keys that tie are equal
pub key_cmp-same : (a b : List ℕ) → key_cmp a b ≡ Equal → a ≡ b
unfolding key_cmp
key_cmp-same a b e = slice_cmp-IsAntisymmetric nat_cmp-IsAntisymmetric a b (second_equal (nat_cmp (digest_of a) (digest_of b)) (slice_cmp nat_cmp a b) e)

apart : (a b : List ℕ) → is_eq (slice_cmp nat_cmp a b) ≡ false → is_eq (key_cmp a b) ≡ false
unfolding key_cmp
apart a b e = never_tied (nat_cmp (digest_of a) (digest_of b)) (slice_cmp nat_cmp a b) e

-- keys tie in the one order where they tie in the other
pub tied_by_bytes : (a b : List ℕ) → eq_by_cmp key_cmp a b ≡ eq_by_cmp (slice_cmp nat_cmp) a b
tied_by_bytes a b = at (slice_cmp nat_cmp a b) refl
  where
    at : (o : Ordering) → slice_cmp nat_cmp a b ≡ o → is_eq (key_cmp a b) ≡ is_eq (slice_cmp nat_cmp a b)
    at Less e = apart a b (ap is_eq e) ∙ sym (ap is_eq e)
    at Equal e =
        ap (λ k. is_eq (key_cmp a k)) (sym (slice_cmp-IsAntisymmetric nat_cmp-IsAntisymmetric a b e)) ∙ ap is_eq (tied_itself key_cmp_total a) ∙ sym (ap is_eq e)
    at Greater e = apart a b (ap is_eq e) ∙ sym (ap is_eq e)
