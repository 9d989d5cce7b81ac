-- A record by its slot, a record of a type by what the cache has for it, and one group, element or pointer more.
use Rattle.std.proofs.Common.{rules, ◌≡◌, ◌+◌, ◌<◌, ◌≤◌, ◌++◌, ◌∷◌, [], true, Some, None, IfOk, OnOk, map, length, get_or, option_map, refl, subst, sym, ap, ◌∙◌, arith}
use Rattle.std.proofs.lemmas.Result.{IfOk-weaker, on_ok_weaker}
use Rattle.std.specs.FinMap as finmap
use Rattle.plan_ir.specs.gql_plain.Order.{member_at}
use Rattle.plan_ir.specs.gql_plain.Shown.{shown_members, tree_of}
use Rattle.plan_groups.specs.FieldView.{form_at}
use Rattle.plan_ir.specs.store_model.Walks.{Found, element_at, elements_at, field_of, shown_object, value_at}
use Rattle.plan_ir.specs.store_record.declared.record.Slot.TheVariants.{Alive}
use Rattle.store_read.proofs.CacheSteps.{right_at, type_within}
use Rattle.store_read.proofs.LoopSteps.{drop_at, looks_here, looks_next, met_next, shown_next, view_at, view_set}
use Rattle.store_read.proofs.ReadSteps.{live_looks, live_met, nothing_met, reads_live, reads_nothing}
use Rattle.store_read.proofs.TypeSteps.{group_within, items_within, live_shown, live_stood, live_trace, pointer_within}
use Rattle.store_read.proofs.walk.+read.Goals as goal
use Rattle.store_read.specs.CacheView.{group_view, pointer_view}
use Rattle.store_read.specs.Caching.{Caching}
use Rattle.store_read.specs.FieldView.{part_at}
use Rattle.store_read.specs.Meeting.{met_onto}
use Rattle.store_read.specs.Members.{found_before}
use Rattle.store_read.specs.Walked.{group_read, group_shown, groups_met, groups_shown, live_read, pointer_read, pointer_shown, pointers_listed, pointers_met, reads}

-- ---- groups

pub read_groups-read_group-requires : goal.read_groups-read_group-requires
read_groups-read_group-requires g t c =
    let gs = map group_view c.args.groups.now in
    let x = get_or c.groups.groups c.groups.at c.index-groups-at.result in
    let own : x ≡ get_or c.groups.groups c.groups.at x = ap (get_or c.groups.groups c.groups.at) c.index-groups-at.is in
    let within : c.groups.at < length c.groups.groups = search rules in
    let is = view_at group_view c.groups.groups gs c.groups.at x c.groups.invariant.groups within own in
    let low = group_within gs c.groups.at (group_view x) is in
    λ k h. (omega (arith, low), h)

pub read_groups-groups-preserved : goal.read_groups-groups-preserved
read_groups-groups-preserved g t c =
    let next = reads (g.S.RecordSource.records c.args.store.now.source.now) c.args.store.now.root.now c.args.store.now.owner.now in
    let T = c.args.name.now in
    let fields = field_of (Some (Alive c.args.row.now)) in
    let gs = map group_view c.args.groups.now in
    let x = get_or c.groups.groups c.groups.at c.index-groups-at.result in
    let own : x ≡ get_or c.groups.groups c.groups.at x = ap (get_or c.groups.groups c.groups.at) c.index-groups-at.is in
    let v = group_view x in
    let within : c.groups.at < length c.groups.groups = search rules in
    let is = view_at group_view c.groups.groups gs c.groups.at x c.groups.invariant.groups within own in
    record {
      shown = shown_next (group_shown next T fields) (groups_shown next T fields) (λ a. (group_read next T fields a).1) (groups_met next T fields) (λ a bs. refl) (λ a bs. refl) gs c.groups.at v is _ _ _ c.groups.invariant.shown c.in_ok-read_group.ensures.shown;
      met = met_next (group_shown next T fields) (groups_shown next T fields) (λ a. (group_read next T fields a).1) (groups_met next T fields) (λ a bs. refl) (λ a bs. refl) gs c.groups.at v is _ _ _ c.groups.invariant.met c.in_ok-read_group.ensures.met;
      looks = looks_next (group_shown next T fields) (groups_shown next T fields) (λ a. (group_read next T fields a).1) (groups_met next T fields) (λ a bs. refl) (λ a bs. refl) gs c.groups.at v is _ _ _ c.groups.invariant.looks c.read_group.ensures.looks;
      applies = c.read_group.ensures.applies ∙ c.groups.invariant.applies;
      groups = view_set group_view c.groups.groups c.groups.at (get_or c.groups.groups c.groups.at c.index-groups-at.result) c.read_group.new.group (ap (get_or c.groups.groups c.groups.at) c.index-groups-at.is) c.read_group.ensures.group ∙ c.groups.invariant.groups;
    }

pub read_groups-returns-in_err-read_group-clause-looks : goal.read_groups-returns-in_err-read_group-clause-looks
read_groups-returns-in_err-read_group-clause-looks g t c =
    let next = reads (g.S.RecordSource.records c.args.store.now.source.now) c.args.store.now.root.now c.args.store.now.owner.now in
    let T = c.args.name.now in
    let fields = field_of (Some (Alive c.args.row.now)) in
    let gs = map group_view c.args.groups.now in
    let x = get_or c.groups.groups c.groups.at c.index-groups-at.result in
    let own : x ≡ get_or c.groups.groups c.groups.at x = ap (get_or c.groups.groups c.groups.at) c.index-groups-at.is in
    let v = group_view x in
    let within : c.groups.at < length c.groups.groups = search rules in
    let is = view_at group_view c.groups.groups gs c.groups.at x c.groups.invariant.groups within own in
    looks_here (group_shown next T fields) (groups_shown next T fields) (λ a. (group_read next T fields a).1) (groups_met next T fields) (λ a bs. refl) (λ a bs. refl) gs c.groups.at v is _ _ _ c.groups.invariant.looks c.read_group.ensures.looks

pub read_groups-returns-in_err-read_group-clause-groups : goal.read_groups-returns-in_err-read_group-clause-groups
read_groups-returns-in_err-read_group-clause-groups g t c =
    view_set group_view c.groups.groups c.groups.at (get_or c.groups.groups c.groups.at c.index-groups-at.result) c.read_group.new.group (ap (get_or c.groups.groups c.groups.at) c.index-groups-at.is) c.read_group.ensures.group ∙ c.groups.invariant.groups

-- ---- a group

pub read_group-returns-clause-shown : goal.read_group-returns-clause-shown
read_group-returns-clause-shown g t c =
    let next = reads (g.S.RecordSource.records c.args.store.now.source.now) c.args.store.now.root.now c.args.store.now.owner.now in
    let group = c.args.group.now in
    let field = c.get-field.ensures ∙ ap (member_at c.args.row.now.fields) c.as_str.ensures in
    let shown = c.in_ok-shown.ensures.shown ∙ ap (λ o. (value_at (next group.below.levels) c.args.name.now group.below.parts (form_at group.form) o).0) field in
    subst (λ o. OnOk c.put_found.result (shown_members c.put_found.new.members.items ≡ shown_members c.args.members.now.items ++ found_before group.response.now o [])) shown c.put_found.ensures

pub read_group-returns-clause-met : goal.read_group-returns-clause-met
read_group-returns-clause-met g t c =
    let next = reads (g.S.RecordSource.records c.args.store.now.source.now) c.args.store.now.root.now c.args.store.now.owner.now in
    let group = c.args.group.now in
    let field = c.get-field.ensures ∙ ap (member_at c.args.row.now.fields) c.as_str.ensures in
    search (rules, c.in_ok-shown.ensures.met ∙ ap (λ o. met_onto c.args.met.now (value_at (next group.below.levels) c.args.name.now group.below.parts (form_at group.form) o).1) field)

pub read_group-returns-clause-looks : goal.read_group-returns-clause-looks
read_group-returns-clause-looks g t c =
    let next = reads (g.S.RecordSource.records c.args.store.now.source.now) c.args.store.now.root.now c.args.store.now.owner.now in
    let group = c.args.group.now in
    let field = c.get-field.ensures ∙ ap (member_at c.args.row.now.fields) c.as_str.ensures in
    subst (λ o. g.S.Count.Steps.looks c.read_value.new.steps ≤ g.S.Count.Steps.looks c.args.steps.now + length (value_at (next group.below.levels) c.args.name.now group.below.parts (form_at group.form) o).1.seen) field c.read_value.ensures.looks

pub read_group-returns-in_err-shown-clause-looks : goal.read_group-returns-in_err-shown-clause-looks
read_group-returns-in_err-shown-clause-looks g t c =
    let next = reads (g.S.RecordSource.records c.args.store.now.source.now) c.args.store.now.root.now c.args.store.now.owner.now in
    let group = c.args.group.now in
    let field = c.get-field.ensures ∙ ap (member_at c.args.row.now.fields) c.as_str.ensures in
    subst (λ o. g.S.Count.Steps.looks c.read_value.new.steps ≤ g.S.Count.Steps.looks c.args.steps.now + length (value_at (next group.below.levels) c.args.name.now group.below.parts (form_at group.form) o).1.seen) field c.read_value.ensures.looks

-- ---- elements

pub read_elements-read_element-requires : goal.read_elements-read_element-requires
read_elements-read_element-requires g t c = λ k h. (omega (arith, ap (λ (b : Caching). b.levels) c.ids.invariant.below, c.decreases), h)

pub read_elements-ids-preserved : goal.read_elements-ids-preserved
read_elements-ids-preserved g t c =
    let below = c.args.below.now in
    let next = reads (g.S.RecordSource.records c.args.store.now.source.now) c.args.store.now.root.now c.args.store.now.owner.now below.levels in
    let types = c.args.types.now in
    let one = element_at next types below.parts in
    let all = elements_at next types below.parts in
    let es = c.args.ids.now in
    let e = c.id-item.result in
    let within : c.ids.id-index < length es = search rules in
    let item : e ≡ get_or es c.ids.id-index e = search rules in
    let is = drop_at es c.ids.id-index e within item in
    let at_below = λ (k : Caching). element_at (reads (g.S.RecordSource.records c.args.store.now.source.now) c.args.store.now.root.now c.args.store.now.owner.now k.levels) types k.parts e in
    let here = c.in_ok-read_element.ensures.shown ∙ ap (λ k. (at_below k).0) c.ids.invariant.below in
    let met = c.in_ok-read_element.ensures.met ∙ ap (λ k. met_onto c.ids.met (at_below k).1) c.ids.invariant.below in
    let looks = subst (λ k. g.S.Count.Steps.looks c.read_element.new.steps ≤ g.S.Count.Steps.looks c.ids.steps + length (at_below k).1.seen) c.ids.invariant.below c.read_element.ensures.looks in
    record {
      shown = shown_next (λ a. (one a).0 ∷ []) (λ bs. (all bs).0) (λ a. (one a).1) (λ bs. (all bs).1) (λ a bs. refl) (λ a bs. refl) es c.ids.id-index e is _ _ _ c.ids.invariant.shown (c.in_ok-push.ensures.ok ∙ ap (λ d. c.ids.shown ++ d ∷ []) here);
      met = met_next (λ a. (one a).0 ∷ []) (λ bs. (all bs).0) (λ a. (one a).1) (λ bs. (all bs).1) (λ a bs. refl) (λ a bs. refl) es c.ids.id-index e is _ _ _ c.ids.invariant.met met;
      looks = looks_next (λ a. (one a).0 ∷ []) (λ bs. (all bs).0) (λ a. (one a).1) (λ bs. (all bs).1) (λ a bs. refl) (λ a bs. refl) es c.ids.id-index e is _ _ _ c.ids.invariant.looks looks;
      applies = c.read_element.ensures.applies ∙ c.ids.invariant.applies;
      below = c.read_element.ensures.below ∙ c.ids.invariant.below;
    }

pub read_elements-returns-in_err-read_element-clause-looks : goal.read_elements-returns-in_err-read_element-clause-looks
read_elements-returns-in_err-read_element-clause-looks g t c =
    let below = c.args.below.now in
    let next = reads (g.S.RecordSource.records c.args.store.now.source.now) c.args.store.now.root.now c.args.store.now.owner.now below.levels in
    let types = c.args.types.now in
    let one = element_at next types below.parts in
    let all = elements_at next types below.parts in
    let es = c.args.ids.now in
    let e = c.id-item.result in
    let within : c.ids.id-index < length es = search rules in
    let item : e ≡ get_or es c.ids.id-index e = search rules in
    let is = drop_at es c.ids.id-index e within item in
    let at_below = λ (k : Caching). element_at (reads (g.S.RecordSource.records c.args.store.now.source.now) c.args.store.now.root.now c.args.store.now.owner.now k.levels) types k.parts e in
    let looks = subst (λ k. g.S.Count.Steps.looks c.read_element.new.steps ≤ g.S.Count.Steps.looks c.ids.steps + length (at_below k).1.seen) c.ids.invariant.below c.read_element.ensures.looks in
    looks_here (λ a. (one a).0 ∷ []) (λ bs. (all bs).0) (λ a. (one a).1) (λ bs. (all bs).1) (λ a bs. refl) (λ a bs. refl) es c.ids.id-index e is _ _ _ c.ids.invariant.looks looks

pub read_elements-returns-in_err-push-clause-looks : goal.read_elements-returns-in_err-push-clause-looks
read_elements-returns-in_err-push-clause-looks g t c =
    let below = c.args.below.now in
    let next = reads (g.S.RecordSource.records c.args.store.now.source.now) c.args.store.now.root.now c.args.store.now.owner.now below.levels in
    let types = c.args.types.now in
    let one = element_at next types below.parts in
    let all = elements_at next types below.parts in
    let es = c.args.ids.now in
    let e = c.id-item.result in
    let within : c.ids.id-index < length es = search rules in
    let item : e ≡ get_or es c.ids.id-index e = search rules in
    let is = drop_at es c.ids.id-index e within item in
    let at_below = λ (k : Caching). element_at (reads (g.S.RecordSource.records c.args.store.now.source.now) c.args.store.now.root.now c.args.store.now.owner.now k.levels) types k.parts e in
    let looks = subst (λ k. g.S.Count.Steps.looks c.read_element.new.steps ≤ g.S.Count.Steps.looks c.ids.steps + length (at_below k).1.seen) c.ids.invariant.below c.read_element.ensures.looks in
    looks_here (λ a. (one a).0 ∷ []) (λ bs. (all bs).0) (λ a. (one a).1) (λ bs. (all bs).1) (λ a bs. refl) (λ a bs. refl) es c.ids.id-index e is _ _ _ c.ids.invariant.looks looks

-- ---- pointers

pub read_pointers-read_pointer-requires : goal.read_pointers-read_pointer-requires
read_pointers-read_pointer-requires g t c =
    let ps = map pointer_view c.args.pointers.now in
    let x = get_or c.pointers.pointers c.pointers.at c.index-pointers-at.result in
    let own : x ≡ get_or c.pointers.pointers c.pointers.at x = ap (get_or c.pointers.pointers c.pointers.at) c.index-pointers-at.is in
    let within : c.pointers.at < length c.pointers.pointers = search rules in
    let is = view_at pointer_view c.pointers.pointers ps c.pointers.at x c.pointers.invariant.pointers within own in
    let low = pointer_within ps c.pointers.at (pointer_view x) is in
    λ k h. (omega (arith, low, c.decreases), h)

pub read_pointers-pointers-preserved : goal.read_pointers-pointers-preserved
read_pointers-pointers-preserved g t c =
    let next = reads (g.S.RecordSource.records c.args.store.now.source.now) c.args.store.now.root.now c.args.store.now.owner.now in
    let T = c.args.itself.now in
    let id = c.args.id.now in
    let ps = map pointer_view c.args.pointers.now in
    let x = get_or c.pointers.pointers c.pointers.at c.index-pointers-at.result in
    let own : x ≡ get_or c.pointers.pointers c.pointers.at x = ap (get_or c.pointers.pointers c.pointers.at) c.index-pointers-at.is in
    let v = pointer_view x in
    let within : c.pointers.at < length c.pointers.pointers = search rules in
    let is = view_at pointer_view c.pointers.pointers ps c.pointers.at x c.pointers.invariant.pointers within own in
    record {
      shown = shown_next (pointer_shown next T id) (pointers_listed next T id) (λ a. (pointer_read next T id a).1) (pointers_met next T id) (λ a bs. refl) (λ a bs. refl) ps c.pointers.at v is _ _ _ c.pointers.invariant.shown c.in_ok-read_pointer.ensures.shown;
      met = met_next (pointer_shown next T id) (pointers_listed next T id) (λ a. (pointer_read next T id a).1) (pointers_met next T id) (λ a bs. refl) (λ a bs. refl) ps c.pointers.at v is _ _ _ c.pointers.invariant.met c.in_ok-read_pointer.ensures.met;
      looks = looks_next (pointer_shown next T id) (pointers_listed next T id) (λ a. (pointer_read next T id a).1) (pointers_met next T id) (λ a bs. refl) (λ a bs. refl) ps c.pointers.at v is _ _ _ c.pointers.invariant.looks c.read_pointer.ensures.looks;
      applies = c.read_pointer.ensures.applies ∙ c.pointers.invariant.applies;
      pointers = view_set pointer_view c.pointers.pointers c.pointers.at (get_or c.pointers.pointers c.pointers.at c.index-pointers-at.result) c.read_pointer.new.pointer (ap (get_or c.pointers.pointers c.pointers.at) c.index-pointers-at.is) c.read_pointer.ensures.pointer ∙ c.pointers.invariant.pointers;
    }

pub read_pointers-returns-in_err-read_pointer-clause-looks : goal.read_pointers-returns-in_err-read_pointer-clause-looks
read_pointers-returns-in_err-read_pointer-clause-looks g t c =
    let next = reads (g.S.RecordSource.records c.args.store.now.source.now) c.args.store.now.root.now c.args.store.now.owner.now in
    let T = c.args.itself.now in
    let id = c.args.id.now in
    let ps = map pointer_view c.args.pointers.now in
    let x = get_or c.pointers.pointers c.pointers.at c.index-pointers-at.result in
    let own : x ≡ get_or c.pointers.pointers c.pointers.at x = ap (get_or c.pointers.pointers c.pointers.at) c.index-pointers-at.is in
    let v = pointer_view x in
    let within : c.pointers.at < length c.pointers.pointers = search rules in
    let is = view_at pointer_view c.pointers.pointers ps c.pointers.at x c.pointers.invariant.pointers within own in
    looks_here (pointer_shown next T id) (pointers_listed next T id) (λ a. (pointer_read next T id a).1) (pointers_met next T id) (λ a bs. refl) (λ a bs. refl) ps c.pointers.at v is _ _ _ c.pointers.invariant.looks c.read_pointer.ensures.looks

pub read_pointers-returns-in_err-read_pointer-clause-pointers : goal.read_pointers-returns-in_err-read_pointer-clause-pointers
read_pointers-returns-in_err-read_pointer-clause-pointers g t c =
    view_set pointer_view c.pointers.pointers c.pointers.at (get_or c.pointers.pointers c.pointers.at c.index-pointers-at.result) c.read_pointer.new.pointer (ap (get_or c.pointers.pointers c.pointers.at) c.index-pointers-at.is) c.read_pointer.ensures.pointer ∙ c.pointers.invariant.pointers

-- ---- a record

pub read_record-read_live-requires : goal.read_record-read_live-requires
read_record-read_live-requires g t c =
    let some : 0 < c.args.cache.now.levels = grind arith in
    λ k h. (omega (arith, c.decreases), (h.0, (h.1, some)))

pub read_record-returns-then-cache-eq0-clause-shown : goal.read_record-returns-then-cache-eq0-clause-shown
read_record-returns-then-cache-eq0-clause-shown g t c =
    let m = g.S.RecordSource.records c.args.store.now.source.now in
    let cache = c.args.cache.now in
    let none : cache.levels ≡ 0 = grind arith in
    let is = reads_nothing m c.args.store.now.root.now c.args.store.now.owner.now c.args.types.now cache.parts c.args.id.now cache.levels none in
    subst (λ (r : Found). IfOk c.lost.result (λ shown. option_map tree_of shown ≡ r.0)) (sym is) c.lost.ensures.shown

pub read_record-returns-then-cache-eq0-clause-met : goal.read_record-returns-then-cache-eq0-clause-met
read_record-returns-then-cache-eq0-clause-met g t c =
    let m = g.S.RecordSource.records c.args.store.now.source.now in
    let root = c.args.store.now.root.now in
    let owner = c.args.store.now.owner.now in
    let cache = c.args.cache.now in
    let none : cache.levels ≡ 0 = grind arith in
    let is = reads_nothing m root owner c.args.types.now cache.parts c.args.id.now cache.levels none in
    let whole = reads m root owner cache.levels c.args.types.now cache.parts c.args.id.now in
    let met : c.lost.new.met ≡ met_onto c.args.met.now whole.1 = nothing_met c.args.id.now whole c.args.met.now c.stand.new.self c.lost.new.met is c.in_ok-stand.ensures c.lost.ensures.met in
    IfOk-weaker c.lost.result (λ shown. option_map tree_of shown ≡ None) (λ _. c.lost.new.met ≡ met_onto c.args.met.now whole.1) (λ _ _. met) c.lost.ensures.shown

pub read_record-returns-in-Some-Alive-clause-shown : goal.read_record-returns-in-Some-Alive-clause-shown
read_record-returns-in-Some-Alive-clause-shown g t c =
    let m = g.S.RecordSource.records c.args.store.now.source.now in
    let cache = c.args.cache.now in
    let some : 0 < cache.levels = grind arith in
    let there : finmap.get m c.args.id.now ≡ Some (Alive c.get-row.result.now) = search rules in
    let is = reads_live m c.args.store.now.root.now c.args.store.now.owner.now c.args.types.now cache.parts c.args.id.now cache.levels cache c.get-row.result.now refl some there in
    subst (λ (r : Found). IfOk c.read_live.result (λ shown. option_map tree_of shown ≡ r.0)) (sym is) c.read_live.ensures.shown

pub read_record-returns-in-Some-Alive-clause-met : goal.read_record-returns-in-Some-Alive-clause-met
read_record-returns-in-Some-Alive-clause-met g t c =
    let m = g.S.RecordSource.records c.args.store.now.source.now in
    let root = c.args.store.now.root.now in
    let owner = c.args.store.now.owner.now in
    let cache = c.args.cache.now in
    let some : 0 < cache.levels = grind arith in
    let there : finmap.get m c.args.id.now ≡ Some (Alive c.get-row.result.now) = search rules in
    let is = reads_live m root owner c.args.types.now cache.parts c.args.id.now cache.levels cache c.get-row.result.now refl some there in
    let whole = reads m root owner cache.levels c.args.types.now cache.parts c.args.id.now in
    let below = live_read m root owner cache c.args.types.now c.args.id.now c.get-row.result.now in
    let after : c.read_live.new.met ≡ met_onto c.stand.new.self below.1 → c.read_live.new.met ≡ met_onto c.args.met.now whole.1 =
    λ e. live_met c.args.id.now whole below c.args.met.now c.stand.new.self c.read_live.new.met is c.in_ok-stand.ensures e in
    on_ok_weaker c.read_live.result after c.read_live.ensures.met

pub read_record-returns-in-Some-Alive-clause-looks : goal.read_record-returns-in-Some-Alive-clause-looks
read_record-returns-in-Some-Alive-clause-looks g t c =
    let m = g.S.RecordSource.records c.args.store.now.source.now in
    let cache = c.args.cache.now in
    let some : 0 < cache.levels = grind arith in
    let there : finmap.get m c.args.id.now ≡ Some (Alive c.get-row.result.now) = search rules in
    let is = reads_live m c.args.store.now.root.now c.args.store.now.owner.now c.args.types.now cache.parts c.args.id.now cache.levels cache c.get-row.result.now refl some there in
    live_looks c.args.id.now _ _ _ _ _ is c.get.ensures.looks c.read_live.ensures.looks

-- ---- a live record

pub read_live-place_of-requires-clause-some : goal.read_live-place_of-requires-clause-some
read_live-place_of-requires-clause-some g t c =
    let same : c.cache.inside.levels ≡ c.args.cache.now.levels = ap (λ (b : Caching). b.levels) c.cache.view_is in
    omega (arith, same, c.requires.some)

pub read_live-index_mut-requires : goal.read_live-index_mut-requires
read_live-index_mut-requires g t c =
    subst (λ n. c.in_ok-at.at < n) (sym c.place_of.new.types.ok.0) (type_within c.place_of.new.types.items c.in_ok-at.at c.type_of-name.result.now c.in_ok-at.ensures.place)

pub read_live-read_object-requires : goal.read_live-read_object-requires
read_live-read_object-requires g t c =
    let right = right_at (map part_at c.deref.result.now) c.cache.inside.levels c.place_of.new.types.items c.in_ok-at.at c.index_mut.result.now c.type_of-name.result.now c.in_ok-at.ensures.right c.in_ok-at.ensures.place c.index_mut.ensures.value in
    let low = items_within (map part_at c.deref.result.now) c.cache.inside.levels c.index_mut.result.now right in
    λ k h. (omega (arith, low, ap (λ (b : Caching). b.levels) c.cache.view_is, c.decreases), h)

pub read_live-returns-in_err-members-clause-looks : goal.read_live-returns-in_err-members-clause-looks
read_live-returns-in_err-members-clause-looks g t c =
    let m = g.S.RecordSource.records c.args.store.now.source.now in
    let found : c.contains.result ≡ true = search rules in
    let stood = live_stood m c.args.store.now.root.now c.args.store.now.owner.now c.args.cache.now c.args.types.now c.args.id.now c.args.row.now (map part_at c.deref.result.now) c.cache.inside.levels c.place_of.new.types.items c.in_ok-at.at c.index_mut.result.now
    c.type_of-name.result.now c.type_of-name.ensures (sym c.contains.ensures ∙ found) c.in_ok-at.ensures.right c.in_ok-at.ensures.place c.index_mut.ensures.value (ap (map part_at) c.deref.ensures.value ∙ ap (λ (b : Caching). b.parts) c.cache.view_is) (ap (λ (b : Caching). b.levels) c.cache.view_is) in
    omega (arith, stood, c.read_object.ensures.looks)

pub read_live-returns-clause-shown : goal.read_live-returns-clause-shown
read_live-returns-clause-shown g t c =
    let m = g.S.RecordSource.records c.args.store.now.source.now in
    let found : c.contains.result ≡ true = search rules in
    ap (λ ms. Some (shown_object ms)) c.in_ok-members.ensures.shown
    ∙ live_shown m c.args.store.now.root.now c.args.store.now.owner.now c.args.cache.now c.args.types.now c.args.id.now c.args.row.now (map part_at c.deref.result.now) c.cache.inside.levels c.place_of.new.types.items c.in_ok-at.at c.index_mut.result.now
    c.type_of-name.result.now c.type_of-name.ensures (sym c.contains.ensures ∙ found) c.in_ok-at.ensures.right c.in_ok-at.ensures.place c.index_mut.ensures.value (ap (map part_at) c.deref.ensures.value ∙ ap (λ (b : Caching). b.parts) c.cache.view_is) (ap (λ (b : Caching). b.levels) c.cache.view_is)

pub read_live-returns-clause-met : goal.read_live-returns-clause-met
read_live-returns-clause-met g t c =
    let m = g.S.RecordSource.records c.args.store.now.source.now in
    let found : c.contains.result ≡ true = search rules in
    c.in_ok-members.ensures.met
    ∙ live_trace m c.args.store.now.root.now c.args.store.now.owner.now c.args.cache.now c.args.types.now c.args.id.now c.args.row.now (map part_at c.deref.result.now) c.cache.inside.levels c.place_of.new.types.items c.in_ok-at.at c.index_mut.result.now
    c.type_of-name.result.now c.type_of-name.ensures (sym c.contains.ensures ∙ found) c.in_ok-at.ensures.right c.in_ok-at.ensures.place c.index_mut.ensures.value (ap (map part_at) c.deref.ensures.value ∙ ap (λ (b : Caching). b.parts) c.cache.view_is) (ap (λ (b : Caching). b.levels) c.cache.view_is)
    c.args.met.now

pub read_live-returns-clause-looks : goal.read_live-returns-clause-looks
read_live-returns-clause-looks g t c =
    let m = g.S.RecordSource.records c.args.store.now.source.now in
    let found : c.contains.result ≡ true = search rules in
    let stood = live_stood m c.args.store.now.root.now c.args.store.now.owner.now c.args.cache.now c.args.types.now c.args.id.now c.args.row.now (map part_at c.deref.result.now) c.cache.inside.levels c.place_of.new.types.items c.in_ok-at.at c.index_mut.result.now
    c.type_of-name.result.now c.type_of-name.ensures (sym c.contains.ensures ∙ found) c.in_ok-at.ensures.right c.in_ok-at.ensures.place c.index_mut.ensures.value (ap (map part_at) c.deref.ensures.value ∙ ap (λ (b : Caching). b.parts) c.cache.view_is) (ap (λ (b : Caching). b.levels) c.cache.view_is) in
    omega (arith, stood, c.read_object.ensures.looks)
