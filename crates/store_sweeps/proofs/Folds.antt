-- Entries over a base and over the swept base.
use Rattle.std.proofs.Common.{◌≡◌, Bool, true, false, true≢false, cond, List, [], ◌∷◌, ◌++◌, map, Option, Some, None, refl, sym, ap, subst, ◌∙◌, option_and_then}
use Rattle.store_model.specs.gql_plain.Order.{has_text}
use Rattle.store_model.specs.store_record.Keys.{Text}
use Rattle.store_model.specs.store_record.declared.field.Field.{Field}
use Rattle.store_model.specs.store_record.declared.record.Record.{Record}
use Rattle.store_model.specs.store_record.declared.record.Slot.{Slot}
use Rattle.store_model.specs.store_record.declared.record.Slot.TheVariants.{Deleted, Alive}
use Rattle.store_model.proofs.Least.{Each, In, in_left, in_right, each_left, each_right, each_so, each_from}
use Rattle.store_model.proofs.Led.{leads-least}
use Rattle.store_model.specs.Enough.{SameAt}
use Rattle.store_model.specs.Entries.{ids_in, named_by_facts, named_by_commands, ids_named, all_named, merge_all, apply, fold_entries}
use Rattle.store_model.specs.Leads.{leads, ids_of_fields, IsLedTo}
use Rattle.store_model.specs.Records.{Records, slot_at, alive, live, put}
use Rattle.store_model.specs.Said.{HaveHandleKeys}
use Rattle.store_model.specs.Sweeps.{sweep, dropped}
use Rattle.store_model.specs.Updates.{act_all}
use Rattle.store_model.specs.declared.entry.Entry.{Entry}
use Rattle.store_model.specs.declared.facts.HandleFact.{HandleFact}
use Rattle.store_sweeps.specs.Swept.{HeldWithInfo, FieldsStay, Stays, AreWithin, IsNamedIn, Goes, chosen, EntriesStayWithin, LeadsAreWithin, LeadsAreEnough, SweepsAreUnderLayers}
use Rattle.store_sweeps.proofs.Writes.{goes_nowhere, goes_on}
use Rattle.store_sweeps.proofs.Commands.{named_stays, named_wider, facts_go, commands_go}
use Rattle.store_sweeps.proofs.Pages.{pages_go}
use Rattle.store_model.proofs.SweptSlots.{slot_at-sweep, same_swept}

-- ---- entries

pub entry_goes : EntriesStayWithin
entry_goes holds e m n within named =
    let fs = e.facts.facts in
    let hs = e.facts.handles in
    let cs = e.commands in
    let parents : List Text = map (λ h. h.parent) hs in
    let first : Each (HeldWithInfo holds) (named_by_facts fs ++ parents) = each_left (HeldWithInfo holds) (named_by_facts fs ++ parents) (named_by_commands cs) named.named in
    let last : Each (HeldWithInfo holds) (named_by_commands cs) = each_right (HeldWithInfo holds) (named_by_facts fs ++ parents) (named_by_commands cs) named.named in
    let facts = facts_go fs holds m n within (each_left (HeldWithInfo holds) (named_by_facts fs) parents first) in
    let pages = pages_go hs facts.larger (put fs m) (put fs n) facts.within named.keys (own hs facts.larger facts.wider (each_right (HeldWithInfo holds) (named_by_facts fs) parents first)) in
    let merged = goes_on holds m n (put fs m) (put fs n) (merge_all hs (put fs m)) (merge_all hs (put fs n)) facts pages in
    goes_on holds m n (merge_all hs (put fs m)) (merge_all hs (put fs n)) (act_all cs (merge_all hs (put fs m))) (act_all cs (merge_all hs (put fs n))) merged
    (commands_go cs merged.larger (merge_all hs (put fs m)) (merge_all hs (put fs n)) merged.within (named_wider holds merged.larger merged.wider (named_by_commands cs) last))
  where
    own : (hs : List HandleFact) (larger : Text → Bool) → ((id : Text) → holds id ≡ true → larger id ≡ true) → Each (HeldWithInfo holds) (map (λ h. h.parent) hs) → Each (λ h. larger h.parent ≡ true) hs
    own [] larger wide h = tt
    own (x ∷ hs) larger wide h = (wide x.parent h.0.0, own hs larger wide h.1)

entry_wider : (P Q : Text → Bool) → ((id : Text) → P id ≡ true → Q id ≡ true) → (e : Entry) → IsNamedIn P e → IsNamedIn Q e
entry_wider P Q wide e h = record { named = named_wider P Q wide (ids_named e) h.named; keys = h.keys }

pub folds_go : (es : List Entry) (holds : Text → Bool) (m n : Records) → AreWithin holds m n → Each (IsNamedIn holds) es → Goes holds m n (fold_entries es m) (fold_entries es n)
folds_go [] holds m n within h = goes_nowhere holds m n within
folds_go (e ∷ es) holds m n within h =
    let one = entry_goes holds e m n within h.0 in
    goes_on holds m n (apply e m) (apply e n) (fold_entries es (apply e m)) (fold_entries es (apply e n)) one
    (folds_go es one.larger (apply e m) (apply e n) one.within (each_so (IsNamedIn holds) (IsNamedIn one.larger) es (entry_wider holds one.larger one.wider) h.1))

-- ---- what ids lead to

fields_within : (Q : Text → Bool) (fs : List (Text × Field)) → ((j : Text) → In j (ids_of_fields fs) → HeldWithInfo Q j) → FieldsStay Q fs
fields_within Q [] h = tt
fields_within Q (f ∷ fs) h = (
  named_stays Q f.0 f.1 (each_from (HeldWithInfo Q) (ids_in f.1) (λ j k. h j (in_left (ids_in f.1) (ids_of_fields fs) j k))),
  fields_within Q fs (λ j k. h j (in_right (ids_in f.1) (ids_of_fields fs) j k)),
)

pub leads_within : LeadsAreWithin
leads_within m ids keep kept = record { same = same_at; stays = λ id h. at id h (slot_at id m) refl }
  where
    Q : Text → Bool
    Q = has_text (leads m ids)

    led : IsLedTo m ids Q
    led = (leads-least m ids).0

    same_at : (id : Text) → Q id ≡ true → SameAt m (sweep keep m) id
    same_at id h = sym (slot_at-sweep keep m id ∙ ap (λ b. cond b (slot_at id m) None) (kept id h))

    at : (id : Text) → Q id ≡ true → (o : Option Slot) → slot_at id m ≡ o → Stays Q o
    at id h None e = tt
    at id h (Some Deleted) e = tt
    at id h (Some (Alive row)) e =
        let lives : live id m ≡ Some row = ap (option_and_then alive) e in
        fields_within Q row.fields (λ j k. (led.linked id row lives h j k, led.info_of_linked id row lives h j k))

pub leads_enough : LeadsAreEnough
leads_enough m n ids same id = one (has_text (leads m ids) id) (has_text (leads n ids) id) refl refl
  where
    P : Text → Bool
    P = has_text (leads m ids)

    Q : Text → Bool
    Q = has_text (leads n ids)

    here : IsLedTo m ids P
    here = (leads-least m ids).0

    there : IsLedTo n ids Q
    there = (leads-least n ids).0

    live_m : (j : Text) (row : Record) → P j ≡ true → live j n ≡ Some row → live j m ≡ Some row
    live_m j row h e = ap (option_and_then alive) (same j h) ∙ e

    live_n : (j : Text) (row : Record) → P j ≡ true → live j m ≡ Some row → live j n ≡ Some row
    live_n j row h e = sym (ap (option_and_then alive) (same j h)) ∙ e

    back : IsLedTo n ids P
    back = record {
      given = here.given;
      info_of_given = here.info_of_given;
      info_of_live = λ j row e h. here.info_of_live j row (live_m j row h e) h;
      linked = λ j row e h. here.linked j row (live_m j row h e) h;
      info_of_linked = λ j row e h. here.info_of_linked j row (live_m j row h e) h;
    }

    less : (j : Text) → Q j ≡ true → P j ≡ true
    less j h = (leads-least n ids).1 P back j h

    forth : IsLedTo m ids Q
    forth = record {
      given = there.given;
      info_of_given = there.info_of_given;
      info_of_live = λ j row e h. there.info_of_live j row (live_n j row (less j h) e) h;
      linked = λ j row e h. there.linked j row (live_n j row (less j h) e) h;
      info_of_linked = λ j row e h. there.info_of_linked j row (live_n j row (less j h) e) h;
    }

    one : (a b : Bool) → P id ≡ a → Q id ≡ b → a ≡ b
    one true true e f = refl
    one false false e f = refl
    one true false e f = absurd (true≢false (sym ((leads-least m ids).1 Q forth id e) ∙ f))
    one false true e f = absurd (true≢false (sym (less id f) ∙ e))

-- ---- layers

named_each : (Q : Text → Bool) (es : List Entry) → Each (λ e. HaveHandleKeys e.facts.handles) es → ((j : Text) → In j (all_named es) → HeldWithInfo Q j) → Each (IsNamedIn Q) es
named_each Q [] keys h = tt
named_each Q (e ∷ es) keys h = (
  record { named = each_from (HeldWithInfo Q) (ids_named e) (λ j k. h j (in_left (ids_named e) (all_named es) j k)); keys = keys.0 },
  named_each Q es keys.1 (λ j k. h j (in_right (ids_named e) (all_named es) j k)),
)

chosen_each : (P : Entry → Type 0) (choice : List Bool) (es : List Entry) → Each P es → Each P (chosen choice es)
chosen_each P [] es h = tt
chosen_each P (b ∷ bs) [] h = tt
chosen_each P (true ∷ bs) (e ∷ es) h = (h.0, chosen_each P bs es h.1)
chosen_each P (false ∷ bs) (e ∷ es) h = chosen_each P bs es h.1

-- the folds of chosen entries over the base and over the swept base
pub layers_go : (base : Records) (entries : List Entry) (keep : Text → Bool) (choice : List Bool) → Each (λ e. HaveHandleKeys e.facts.handles) entries
    → ((id : Text) → has_text (leads base (all_named entries)) id ≡ true → keep id ≡ true)
    → Goes (has_text (leads base (all_named entries))) base (sweep keep base) (fold_entries (chosen choice entries) base) (fold_entries (chosen choice entries) (sweep keep base))
layers_go base entries keep choice keys kept =
    let led = (leads-least base (all_named entries)).0 in
    folds_go (chosen choice entries) (has_text (leads base (all_named entries))) base (sweep keep base) (leads_within base (all_named entries) keep kept)
    (chosen_each (IsNamedIn (has_text (leads base (all_named entries)))) choice entries
    (named_each (has_text (leads base (all_named entries))) entries keys (λ j k. (led.given j k, led.info_of_given j k))))

pub sweeps_under_layers : SweepsAreUnderLayers
sweeps_under_layers base entries keep choice keys kept id stays = (layers_go base entries keep choice keys kept).same id (same_swept keep base id stays)

-- all of the entries
pub chosen_all : (es : List Entry) → chosen (map (λ _. true) es) es ≡ es
chosen_all [] = refl
chosen_all (e ∷ es) = ap (λ rest. e ∷ rest) (chosen_all es)

pub folds_same : (base : Records) (entries : List Entry) (keep : Text → Bool) → Each (λ e. HaveHandleKeys e.facts.handles) entries
    → ((id : Text) → has_text (leads base (all_named entries)) id ≡ true → keep id ≡ true)
    → (id : Text) → has_text (dropped keep base) id ≡ false → SameAt (fold_entries entries base) (fold_entries entries (sweep keep base)) id
folds_same base entries keep keys kept id stays =
    subst (λ es. SameAt (fold_entries es base) (fold_entries es (sweep keep base)) id) (chosen_all entries)
    (sweeps_under_layers base entries keep (map (λ _. true) entries) keys kept id stays)
