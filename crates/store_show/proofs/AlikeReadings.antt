-- What plans by which records read alike answer is the same.
use Rattle.std.proofs.Common.{◌≡◌, ℕ, ◌+◌, List, [], ◌∷◌, subst, sym, ◌∙◌}
use Rattle.std.proofs.lemmas.List.Sorted.{IsPermutation-sym, length_permutation}
use Rattle.std.specs.List.Sorted.{IsPermutation}
use Rattle.store_read.proofs.gql_order_laws.Moved.{sorted_of_moved}
use Rattle.plan_ir.proofs.gql_plain_laws.SortedTexts.{AreInOrder-sorted_texts, AreSortedOf-is, has_text-Decides, has_text-sorted_texts}
use Rattle.plan_ir.specs.gql_plain.Order.{AreSortedOf, sorted_texts}
use Rattle.plan_ir.specs.Reader.{Reader}
use Rattle.plan_ir.specs.ReaderMeaning.{collect_reader, plan_reads, records_below}
use Rattle.plan_order.specs.Alike.{AreAlike, ReadAlike, part_of}
use Rattle.plan_ir.specs.schema_types.Environments.{Values}
use Rattle.plan_ir.specs.store_model.Walks.{Found, Slots, or_null, read_at, reading, standings}
use Rattle.plan_ir.specs.store_record.Keys.{Text}

are_sorted : (texts : List (List ℕ)) → AreSortedOf texts (sorted_texts texts)
are_sorted texts = (
  AreInOrder-sorted_texts texts,
  λ text. (
    λ h. (has_text-Decides texts text).0 (sym (has_text-sorted_texts texts text) ∙ (has_text-Decides (sorted_texts texts) text).1 h),
    λ h. (has_text-Decides (sorted_texts texts) text).0 (has_text-sorted_texts texts text ∙ (has_text-Decides texts text).1 h),
  ),
)

-- moved texts are the same in byte order
sorted_moved : (texts moved : List (List ℕ)) → IsPermutation moved texts → sorted_texts moved ≡ sorted_texts texts
sorted_moved texts moved is = AreSortedOf-is texts (sorted_texts moved) (sorted_of_moved texts moved (sorted_texts moved) (IsPermutation-sym moved texts is) (are_sorted moved))

module _ (a b : Found) (alike : AreAlike a b) where
  pub same_reading : reading a ≡ reading b
  same_reading =
      let seen : sorted_texts a.1.seen ≡ sorted_texts b.1.seen = sorted_moved b.1.seen a.1.seen alike.seen in
      λ i. record { value = or_null (alike.shown i); missing = alike.missing i; seen = seen i }

  pub same_standings : standings a ≡ standings b
  same_standings = sym (length_permutation a.1.seen b.1.seen alike.seen)

module _ (plan other : Reader) (alike : ReadAlike plan other) (typed : Text → Text) (owner : Text) (m : Slots) (env : Values) (types : List Text) (id : Text) where
  -- each walks as deep as its own plan, which is as deep as the other
  pub plans_alike : AreAlike (plan_reads typed owner m env other types id) (plan_reads typed owner m env plan types id)
  plans_alike =
      subst (λ n. AreAlike (read_at collect_reader typed owner m (n + 1) types (part_of env other ∷ []) id) (plan_reads typed owner m env plan types id)) (sym alike.deep)
      (alike.reads typed owner m env (records_below plan + 1) types id)

  pub plan_readings : reading (plan_reads typed owner m env other types id) ≡ reading (plan_reads typed owner m env plan types id)
  plan_readings = same_reading (plan_reads typed owner m env other types id) (plan_reads typed owner m env plan types id) plans_alike

  pub plan_standings : standings (plan_reads typed owner m env other types id) ≡ standings (plan_reads typed owner m env plan types id)
  plan_standings = same_standings (plan_reads typed owner m env other types id) (plan_reads typed owner m env plan types id) plans_alike
