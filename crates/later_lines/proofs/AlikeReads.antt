-- Two maps of records with the same slots but at some ids: what entries and reads that look at none of these ids make of them.
use Rattle.std.proofs.Common.{◌≡◌, ℕ, ◌+◌, Bool, false, List, [], ◌∷◌, ◌++◌, map, Option, Some, None, cond, refl, ap, ◌∙◌}
use Rattle.plan_ir.proofs.gql_plain_laws.SortedTexts.{has_text-sorted_texts}
use Rattle.plan_ir.specs.gql_plain.Order.{sorted_texts}
use Rattle.later_lines.specs.Looked.{looks_of_all, seen_by_watches}
use Rattle.plan_ir.specs.Expansion as plans
use Rattle.relay_machine.specs.Machine.{Handle, PartShown, Project, Watch, documents_of, fragment_read, is_changed, notices_of, operation_read, read_again, root_type, shown, shown_by, slots_of, started}
use Rattle.relay_machine.specs.Printed.{notice_line}
use Rattle.relay_machine.specs.relay_model.Collection.{Part, collect, part_of}
use Rattle.relay_machine.specs.relay_model.Readings.{depth_of, fragment_part, masked_setting, part_reads, with_marked}
use Rattle.plan_ir.specs.schema_tables.Types.{Text, possible, root}
use Rattle.plan_ir.specs.schema_types.Environments.{Values}
use Rattle.plan_ir.specs.schema_types.Sites.{FragmentAt}
use Rattle.plan_ir.proofs.store_model_laws.Enough.{looks_enough}
use Rattle.plan_ir.proofs.store_model_laws.Least.{Each, each_append, each_from, each_left, each_right, each_so, of_member}
use Rattle.plan_ir.proofs.store_model_laws.SameSlots.{read_same_seen}
use Rattle.plan_ir.specs.store_model.Enough.{SameAt}
use Rattle.plan_ir.specs.store_model.Entries.{apply, fold_entries, looks}
use Rattle.plan_ir.specs.store_model.Records.{Records, slot_at}
use Rattle.plan_ir.specs.store_model.Walks.{reading, type_of_record}
use Rattle.plan_ir.specs.store_model.declared.entry.Entry.{Entry}
use Rattle.plan_ir.specs.store_record.Keys as keys

module _ (D : Text → Bool) where
  abbrev pub IsAway : Text → Type 0
  IsAway id = D id ≡ false

  -- none of the ids is among these
  abbrev pub Away : List Text → Type 0
  Away ids = Each IsAway ids

  -- the same slots at every other id
  abbrev pub SameElsewhere : Records → Records → Type 0
  SameElsewhere m n = (id : Text) → D id ≡ false → slot_at id m ≡ slot_at id n

  -- ---- entries

  pub fold_alike : (es : List Entry) (m n : Records) → SameElsewhere m n → Away (looks_of_all es m) → SameElsewhere (fold_entries es m) (fold_entries es n)
  fold_alike [] m n same away = same
  fold_alike (e ∷ es) m n same away =
      let asked = each_so IsAway (SameAt m n) (looks e m) same (each_left IsAway (looks e m) (looks_of_all es (apply e m)) away) in
      fold_alike es (apply e m) (apply e n) (λ id h. (looks_enough e m n asked).2 id (same id h)) (each_right IsAway (looks e m) (looks_of_all es (apply e m)) away)

  pub looks_first : (es fs : List Entry) (m : Records) → Away (looks_of_all (es ++ fs) m) → Away (looks_of_all es m)
  looks_first [] fs m away = tt
  looks_first (e ∷ es) fs m away =
      each_append IsAway (looks e m) (looks_of_all es (apply e m)) (each_left IsAway (looks e m) (looks_of_all (es ++ fs) (apply e m)) away)
      (looks_first es fs (apply e m) (each_right IsAway (looks e m) (looks_of_all (es ++ fs) (apply e m)) away))

  pub looks_rest : (es fs : List Entry) (m : Records) → Away (looks_of_all (es ++ fs) m) → Away (looks_of_all fs (fold_entries es m))
  looks_rest [] fs m away = away
  looks_rest (e ∷ es) fs m away = looks_rest es fs (apply e m) (each_right IsAway (looks e m) (looks_of_all (es ++ fs) (apply e m)) away)

  -- ---- reads

  unsorted : (ids : List Text) → Away (sorted_texts ids) → Away ids
  unsorted ids away = each_from IsAway ids (λ id h. of_member IsAway (sorted_texts ids) id away (has_text-sorted_texts ids id ∙ h))

  part_alike : (q : plans.Project) (own : Values) (T owner : Text) (m n : Records) (part : Part) (types : List Text) (id : Text) → SameElsewhere m n
      → Away (part_reads q own T owner (slots_of m) part types id).1.seen → part_reads q own T owner (slots_of n) part types id ≡ part_reads q own T owner (slots_of m) part types id
  part_alike q own T owner m n part types id same away =
      read_same_seen (collect (masked_setting q own)) (type_of_record T) owner (slots_of m) (slots_of n) (depth_of part.spreads q part.selections + 1) types (part ∷ []) id
      (each_so IsAway (λ j. slots_of m j ≡ slots_of n j) (part_reads q own T owner (slots_of m) part types id).1.seen same away)

  module _ (p : Project) (m n : Records) (same : SameElsewhere m n) where
    operation_alike : (h : Handle) → Away (operation_read p m h).1.seen → operation_read p n h ≡ operation_read p m h
    operation_alike h away =
        part_alike (documents_of p) h.values (plans.name_or (root (documents_of p).defs h.operation.kind)) h.name m n (part_of (masked_setting (documents_of p) h.values) h.operation)
        (plans.name_or (root (documents_of p).defs h.operation.kind) ∷ []) keys.root same away

    fragment_alike : (h : Handle) (f : FragmentAt) (scope : Values) (id : Text) → Away (fragment_read p m h f scope id).1.seen → fragment_read p n h f scope id ≡ fragment_read p m h f scope id
    fragment_alike h f scope id away =
        part_alike (documents_of p) (with_marked h.values scope) (root_type p h) h.name m n (fragment_part (documents_of p) f h.values scope) (possible (documents_of p).defs f.on.name) id same away

    pub shown_alike : (h : Handle) (part : Option PartShown) → Away (shown p m h part).seen → shown p n h part ≡ shown p m h part
    shown_alike h None away = ap reading (operation_alike h (unsorted (operation_read p m h).1.seen away))
    shown_alike h (Some q) away =
        ap reading (fragment_alike h q.fragment q.scope q.id (unsorted (fragment_read p m h q.fragment q.scope q.id).1.seen away))

    -- ---- watches

    watch_alike : (w : Watch) (ws : List Watch) → Away (seen_by_watches p m (w ∷ ws)) → shown_by p n w ≡ shown_by p m w
    watch_alike w ws away = shown_alike w.handle w.part (each_left IsAway (shown_by p m w).seen (seen_by_watches p m ws) away)

    pub notices_alike : (k : ℕ) (ws : List Watch) → Away (seen_by_watches p m ws) → notices_of p n k ws ≡ notices_of p m k ws
    notices_alike k [] away = refl
    notices_alike k (w ∷ ws) away =
        let here = watch_alike w ws away in
        let rest = notices_alike k ws (each_right IsAway (shown_by p m w).seen (seen_by_watches p m ws) away) in
        λ i. cond (is_changed w (here i)) (notice_line k w.name (here i)) [] ++ rest i

    pub again_alike : (ws : List Watch) → Away (seen_by_watches p m ws) → map (read_again p n) ws ≡ map (read_again p m) ws
    again_alike [] away = refl
    again_alike (w ∷ ws) away =
        let here = watch_alike w ws away in
        let rest = again_alike ws (each_right IsAway (shown_by p m w).seen (seen_by_watches p m ws) away) in
        λ i. cond (is_changed w (here i)) (started w.name w.handle w.part (here i)) w ∷ rest i
