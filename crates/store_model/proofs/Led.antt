-- What ids lead to in a map of records.
use Rattle.std.proofs.Common.{◌≡◌, Bool, true, false, true≢false, cond, ◌||◌, ◌&&◌, T, List, [], ◌∷◌, length, Some, option_and_then, is_some, unwrap_or, refl, sym, ap, subst, ◌∙◌, arith, bytes_eq, nat_cmp, Ordering, Less, Equal, Greater, is_eq, is_lt}
use Rattle.std.proofs.lemmas.Map.Text.{is_eq-slice_cmp}
use Rattle.std.proofs.lemmas.Slice.Eq.{bytes_eq-Decides}
use Rattle.std.specs.Cmp.Lexicographic.{slice_cmp, nat_list_cmp_total}
use Rattle.std.specs.FinMap as map
use Rattle.std.specs.FinMap.Entries.{find, is_sorted, below_all}
use Rattle.std.specs.Ordering.{eq_by_cmp, ordering_reverse}
use Rattle.store_record.specs.gql_plain.Order.{has_text}
use Rattle.store_record.specs.Keys.{Text}
use Rattle.store_record.specs.declared.record.Record.{Record}
use Rattle.store_record.specs.declared.record.Slot.{Slot}
use Rattle.store_record.specs.declared.record.Slot.TheVariants.{Deleted, Alive}
use Rattle.store_model.proofs.Least.{Each, In, Done, Closed, in_first, in_rest, or_right, of_member, each_append, each_left, each_right, each_so, grown_keeps, grown_closed, grown_least}
use Rattle.store_model.specs.Leads.{Live, live_of, lives_of, ids_of_fields, with_infos, grow, LeadsIsLeast}
use Rattle.store_model.specs.Merge.{info_id}
use Rattle.store_model.specs.Records.{Records, alive, live}

abbrev order : Text → Text → Ordering
order = slice_cmp nat_cmp

abbrev live_under : Text → Record → Live
live_under id row = record { id = id; out = info_id id ∷ with_infos (ids_of_fields row.fields) }

same_some : {X : Type 0} (x y : X) → Some x ≡ Some y → x ≡ y
same_some x y e = ap (λ o. unwrap_or o x) e

-- ---- a live record is among the lives

found_here : (P : Live → Type 0) (id key : Text) (s : Slot) (row : Record) → id ≡ key → Each P (live_of key s) → alive s ≡ Some row → P (live_under id row)
found_here P id key Deleted row same all e = absurd (true≢false (sym (ap is_some e)))
found_here P id key (Alive here) row same all e = subst (λ k. P (live_under k row)) (sym same) (subst (λ r. P (live_under key r)) (same_some here row e) all.0)

finds : (P : Live → Type 0) (es : List (Text × Slot)) → Each P (lives_of es) → (id : Text) (row : Record) → option_and_then alive (find order id es) ≡ Some row → P (live_under id row)
finds P [] all id row e = absurd (true≢false (sym (ap is_some e)))
finds P (x ∷ es) all id row e =
    elim (eq_by_cmp order id x.0) as (λ b. eq_by_cmp order id x.0 ≡ b → option_and_then alive (cond b (Some x.1) (find order id es)) ≡ Some row → P (live_under id row)) [
      | true ↦ λ t here. found_here P id x.0 x.1 row ((bytes_eq-Decides id x.0).0 (sym (is_eq-slice_cmp id x.0) ∙ t)) (each_left P (live_of x.0 x.1) (lives_of es) all) here
      | false ↦ λ _ later. finds P es (each_right P (live_of x.0 x.1) (lives_of es) all) id row later
    ] refl e

-- ---- and each of the lives is a live record

T_first : (a b : Bool) → T (a && b) → T a
T_first true b h = tt
T_first false b h = h

T_second : (a b : Bool) → T (a && b) → T b
T_second true b h = h
T_second false b h = absurd h

is_less : (o : Ordering) → T (is_lt o) → o ≡ Less
is_less Less h = refl
is_less Equal h = absurd h
is_less Greater h = absurd h

own_rest : (x : Text × Slot) (es ys : List (Text × Slot)) → T (below_all order x.0 ys) → Each (λ y. find order y.0 es ≡ Some y.1) ys → Each (λ y. find order y.0 (x ∷ es) ≡ Some y.1) ys
own_rest x es [] below all = tt
own_rest x es (y ∷ ys) below all =
    let above : order y.0 x.0 ≡ Greater = nat_list_cmp_total.antisymm y.0 x.0 ∙ ap ordering_reverse (is_less (order x.0 y.0) (T_first _ _ below)) in
    (ap (λ o. cond (is_eq o) (Some x.1) (find order y.0 es)) above ∙ all.0, own_rest x es ys (T_second _ _ below) all.1)

own : (es : List (Text × Slot)) → T (is_sorted order es) → Each (λ y. find order y.0 es ≡ Some y.1) es
own [] sorted = tt
own (x ∷ es) sorted =
    let same : eq_by_cmp order x.0 x.0 ≡ true = is_eq-slice_cmp x.0 x.0 ∙ (bytes_eq-Decides x.0 x.0).1 refl in
    (ap (λ b. cond b (Some x.1) (find order x.0 es)) same, own_rest x es es (T_first _ _ sorted) (own es (T_second _ _ sorted)))

here_closed : (m : Records) (P : Text → Type 0) → ((id : Text) (row : Record) → live id m ≡ Some row → P id → Each P (live_under id row).out)
    → (id : Text) (s : Slot) → map.get m id ≡ Some s → Each (Closed P) (live_of id s)
here_closed m P closed id Deleted e = tt
here_closed m P closed id (Alive row) e = (closed id row (ap (option_and_then alive) e), tt)

lives_closed : (m : Records) (P : Text → Type 0) → ((id : Text) (row : Record) → live id m ≡ Some row → P id → Each P (live_under id row).out)
    → (es : List (Text × Slot)) → Each (λ y. map.get m y.0 ≡ Some y.1) es → Each (Closed P) (lives_of es)
lives_closed m P closed [] all = tt
lives_closed m P closed (x ∷ es) all =
    each_append (Closed P) (live_of x.0 x.1) (lives_of es) (here_closed m P closed x.0 x.1 all.0) (lives_closed m P closed es all.1)

entries_own : (m : Records) → Each (λ y. map.get m y.0 ≡ Some y.1) (map.entries m)
entries_own m =
    each_so (λ y. find order y.0 (map.entries m) ≡ Some y.1) (λ y. map.get m y.0 ≡ Some y.1) (map.entries m)
    (λ y e. map.get-entries m y.0 ∙ e) (own (map.entries m) (map.entries_sorted m))

-- ---- ids with their page information

in_infos : (ids : List Text) (id : Text) → In id ids → In id (with_infos ids)
in_infos [] id h = absurd (true≢false (sym h))
in_infos (x ∷ ids) id h =
    elim (bytes_eq x id) as (λ b. (b || has_text ids id) ≡ true → (b || (bytes_eq (info_id x) id || has_text (with_infos ids) id)) ≡ true) [
      | true ↦ λ _. refl
      | false ↦ λ later. or_right (bytes_eq (info_id x) id) _ (in_infos ids id later)
    ] h

info_in : (ids : List Text) (id : Text) → In id ids → In (info_id id) (with_infos ids)
info_in [] id h = absurd (true≢false (sym h))
info_in (x ∷ ids) id h =
    elim (bytes_eq x id) as (λ b. bytes_eq x id ≡ b → (b || has_text ids id) ≡ true → In (info_id id) (x ∷ info_id x ∷ with_infos ids)) [
      | true ↦ λ e _. in_rest x (info_id id) (info_id x ∷ with_infos ids)
          (subst (λ k. In (info_id k) (info_id x ∷ with_infos ids)) ((bytes_eq-Decides x id).0 e) (in_first (info_id x) (with_infos ids)))
      | false ↦ λ _ later. in_rest x (info_id id) (info_id x ∷ with_infos ids) (in_rest (info_id x) (info_id id) (with_infos ids) (info_in ids id later))
    ] refl h

each_infos : (P : Text → Type 0) (ids : List Text) → ((id : Text) → In id ids → P id) → ((id : Text) → In id ids → P (info_id id)) → Each P (with_infos ids)
each_infos P [] own info = tt
each_infos P (x ∷ ids) own info =
    (own x (in_first x ids), (info x (in_first x ids), each_infos P ids (λ id h. own id (in_rest x id ids h)) (λ id h. info id (in_rest x id ids h))))

-- ---- the law

pub leads-least : LeadsIsLeast
leads-least m ids =
    let lives = lives_of (map.entries m) in
    let start = with_infos ids in
    let all = grow (length lives) lives start in
    let done = λ (id : Text) (row : Record) (h : live id m ≡ Some row).
    finds (Done all) (map.entries m) (grown_closed (length lives) lives start (omega arith)) id row (ap (option_and_then alive) (sym (map.get-entries m id)) ∙ h) in
    let out = λ (id : Text) (row : Record) (h : live id m ≡ Some row) (is_in : In id all). (done id row h is_in).1 in (
      record {
        given = λ id h. grown_keeps (length lives) lives start id (in_infos ids id h);
        info_of_given = λ id h. grown_keeps (length lives) lives start (info_id id) (info_in ids id h);
        info_of_live = λ id row h is_in. (done id row h is_in).0;
        linked = λ id row h is_in j to. of_member (λ k. In k all) (with_infos (ids_of_fields row.fields)) j (out id row h is_in) (in_infos (ids_of_fields row.fields) j to);
        info_of_linked = λ id row h is_in j to. of_member (λ k. In k all) (with_infos (ids_of_fields row.fields)) (info_id j) (out id row h is_in) (info_in (ids_of_fields row.fields) j to);
      },
      λ holds closed id h. of_member (λ j. holds j ≡ true) all id
          (grown_least (λ j. holds j ≡ true) (length lives) lives start
          (each_infos (λ j. holds j ≡ true) ids closed.given closed.info_of_given)
          (lives_closed m (λ j. holds j ≡ true)
          (λ i row alive_i held. (closed.info_of_live i row alive_i held, each_infos (λ j. holds j ≡ true) (ids_of_fields row.fields) (closed.linked i row alive_i held) (closed.info_of_linked i row alive_i held)))
          (map.entries m) (entries_own m)))
          h,
    )
