-- One element more, one group more, a field, and an object of a type.
use Rattle.std.proofs.Common.{rules, true, ℕ, Option, List, ◌≡◌, ◌+◌, ◌<◌, ◌≤◌, false, not, ◌&&◌, ◌++◌, ◌∷◌, [], codes, map, drop, set, length, get_or, Some, None, IfOk, OnOk, subst, sym, ap, ◌∙◌, arith}
use Rattle.std.proofs.lemmas.List.{drop_all, set-get_or}
use Rattle.std.proofs.lemmas.Result.{IfOk-weaker, on_ok_weaker}
use Rattle.plan_ir.specs.gql_plain.Order.{has_text}
use Rattle.plan_groups.specs.FieldView.{below_at, form_at, plan_at}
use Rattle.plan_groups.specs.declared.field.FormAt.{FormAt}
use Rattle.plan_ir.specs.NormalMeaning.{collect_plan}
use Rattle.serde_json.proofs.Views.{view-Array, view-Object}
use Rattle.serde_json.specs.Data as J
use Rattle.serde_json.specs.Find.{get_member}
use Rattle.serde_json.specs.View.{items_view, members_view, view}
use Rattle.serde_json.specs.declared.value.Value.{Value}
use Rattle.plan_ir.proofs.store_model_laws.Smaller.{found_smaller}
use Rattle.plan_ir.specs.store_model.Items.{key_of, many, parts}
use Rattle.plan_ir.specs.store_model.Records.{typename}
use Rattle.plan_ir.specs.store_model.Says.{Report, both, element_of, elements_of, elements_under, groups_say, id_under, is_misnamed, link_of, link_or_null, named_says, pages_of, put_at, report_pages, responses, unless_misnamed, walk_of, walks_of}
use Rattle.plan_ir.specs.store_model.declared.payload_fault.PathStep.TheVariants.{Index, Key}
use Rattle.store_norm.proofs.CacheSteps.{plans_at, right_at, type_within}
use Rattle.store_norm.proofs.FieldSteps.{type_told}
use Rattle.store_norm.proofs.TakeSteps.{Ends, elements_taken, ends_here, groups_taken, object_taken}
use Rattle.store_norm.proofs.WalkSteps.{below_walk, element_below, element_deep, elements_ids, leaf_walk, member_below, one_walk, told_absent, told_present, told_typename}
use Rattle.store_norm.proofs.taking.+take.Goals as goal
use Rattle.store_norm.specs.Caching.{Caching, parts_below, parts_of, plans_of}
use Rattle.store_norm.specs.MadeView.{id_of, made_at}
use Rattle.store_norm.specs.Walk.{group_told, is_typename}
use Rattle.plan_ir.specs.store_record.Keys.{Text, client_id}
use Rattle.plan_ir.specs.store_record.declared.field.Field.{Field}
use Rattle.store_report.proofs.AddSteps.{adds_none, field_added}
use Rattle.store_report.specs.ObjectRows.{Adds, Held, with_open}

pub take_elements-take_element-requires : goal.take_elements-take_element-requires
take_elements-take_element-requires t c =
    let deep : J.depth (view c.item-item.result) ≤ J.items_depth (items_view c.args.items.now.items) =
    element_deep c.args.items.now.items c.items.at c.item-item.result (search rules) (search rules) in
    let less = element_below (J.depth (view c.item-item.result)) (J.items_depth (items_view c.args.items.now.items)) deep in
    (omega (arith, less, c.decreases), tt)

pub take_elements-items-preserved : goal.take_elements-items-preserved
take_elements-items-preserved t c =
    let items = c.args.items.now.items in
    let at = c.items.at in
    let item = c.item-item.result in
    let b = below_at c.args.type_below.now in
    let made = made_at c.args.place.now in
    let fs = c.items.below.parts in
    let path = c.args.trail.now in
    let here = c.with-here.result in
    let within : at < length items = search rules in
    let is : item ≡ get_or items at item = search rules in
    let there : here ≡ path ++ Index at ∷ [] = c.with-here.ensures in (
      subst (λ (k : Caching). (after : Held) → Adds c.take_element.new.rows after (elements_under (elements_of collect_plan (items_view (drop (at + 1) items))) b k.parts made (at + 1) path).1 → Adds c.args.rows.now after (elements_under (elements_of collect_plan (items_view items)) b c.args.below.now.parts made 0 path).1)
          (sym c.in_ok-id.ensures.below)
          (elements_taken items at item b fs made path within is c.args.rows.now c.items.rows c.take_element.new.rows _ c.items.invariant.0
          (subst (λ p. Adds c.items.rows c.take_element.new.rows (element_of collect_plan (view item) b fs (made (Some at)) p).1) there c.in_ok-id.ensures.said)),
      ap (λ (k : Caching). c.push.new.self ++ (elements_under (elements_of collect_plan (items_view (drop (at + 1) items))) b k.parts made (at + 1) path).0) c.in_ok-id.ensures.below
          ∙ elements_ids items at item b fs made path here within is there _ c.items.ids c.push.new.self c.in_ok-id.id c.items.invariant.1 c.in_ok-id.ensures.id c.in_ok-push.ensures.ok,
      c.in_ok-id.ensures.below ∙ c.items.invariant.2,
    )

pub take_field-returns-clause-said : goal.take_field-returns-clause-said
take_field-returns-clause-said t c =
    let path = c.args.trail.now in
    let id = c.args.id.now in
    let group = c.args.group.now in
    let ask = group.first.ask in
    let d = view c.args.value.now in
    let here = path ++ Key ask.response ∷ [] in
    let there : c.with-here.result ≡ here = c.with-here.ensures ∙ ap (λ k. path ++ Key k ∷ []) c.response.ensures in
    let says_all = walk_of collect_plan d ask.form (parts group) (client_id id (key_of ask)) here in
    let below : walk_of collect_plan d ask.form (parts_below group) (client_id id (key_of ask)) here ≡ says_all = below_walk d ask.form (parts group) (client_id id (key_of ask)) here in
    let said : Adds c.take_pages.new.rows c.take_value.new.rows says_all.1 =
    subst (λ (r : Field × Report). Adds c.take_pages.new.rows c.take_value.new.rows r.1) below
    (subst (λ (r : Field × Report). Adds c.take_pages.new.rows c.take_value.new.rows r.1)
    (λ i. walk_of collect_plan d (c.form.ensures i) (c.requires i) (client_id id (c.key.ensures i)) (there i)) c.in_ok-field.ensures.said) in
    let value : c.in_ok-field.field ≡ says_all.0 =
    c.in_ok-field.ensures.field ∙ (λ i. (walk_of collect_plan d (c.form.ensures i) (c.requires i) (client_id id (c.key.ensures i)) (there i)).0) ∙ ap (λ (r : Field × Report). r.0) below in
    let entry : c.in_ok-new.field-0 ≡ (key_of ask, says_all.0) = c.in_ok-new.ensures ∙ (λ i. ((c.in_ok-key.ensures ∙ c.key-2.ensures) i, value i)) in
    subst (λ es. Adds (with_open id c.args.fields.now.items c.args.rows.now) (with_open id es c.take_value.new.rows) (both (put_at id (key_of ask) says_all.0 here) (both (report_pages (pages_of collect_plan id group)) says_all.1)))
    (sym (c.in_ok-push.ensures.items ∙ ap (λ (e : Text × Field). c.args.fields.now.items ++ e ∷ []) entry))
    (field_added c.args.rows.now c.take_pages.new.rows c.take_value.new.rows id (key_of ask) says_all.0 here c.args.fields.now.items (report_pages (pages_of collect_plan id group)) says_all.1
    c.in_ok-take_pages.ensures said)

pub take_group-take_field-requires : goal.take_group-take_field-requires
take_group-take_field-requires t c =
    let ms = members_view c.args.members.now.map.now.entries in
    let there : get_member c.args.group.now.first.ask.response ms ≡ Some (view c.in-Some.value.now) =
    sym (c.in-Some.ensures ∙ ap (λ k. get_member k ms) c.response.ensures) in
    let less = member_below (J.depth (view c.in-Some.value.now)) (J.depth (J.object ms)) (found_smaller.0 c.args.group.now.first.ask.response ms (view c.in-Some.value.now) there) in
    (omega (arith, less, c.decreases), c.requires.below)

pub take_group-returns-in-Some-clause-said : goal.take_group-returns-in-Some-clause-said
take_group-returns-in-Some-clause-said t c =
    let ms = members_view c.args.members.now.map.now.entries in
    let group = c.args.group.now in
    let there : get_member group.first.ask.response ms ≡ Some (view c.in-Some.value.now) = sym (c.in-Some.ensures ∙ ap (λ k. get_member k ms) c.response.ensures) in
    let other : c.is_typename.result ≡ false = search rules in
    let field : is_typename group.first.ask.form ≡ false = ap is_typename (sym c.form.ensures) ∙ sym c.is_typename.ensures ∙ other in
    on_ok_weaker c.take_field.result
    (subst (Adds (with_open c.args.id.now c.args.fields.now.items c.args.rows.now) (with_open c.args.id.now c.take_field.new.fields.items c.take_field.new.rows))
    (sym (told_present c.args.id.now c.args.trail.now ms group (view c.in-Some.value.now) field there))) c.take_field.ensures.said

pub take_group-returns-in-None-clause-said : goal.take_group-returns-in-None-clause-said
take_group-returns-in-None-clause-said t c =
    let ms = members_view c.args.members.now.map.now.entries in
    let group = c.args.group.now in
    let now = with_open c.args.id.now c.args.fields.now.items c.args.rows.now in
    let absent : get_member group.first.ask.response ms ≡ None = sym (c.in-None.ensures ∙ ap (λ k. get_member k ms) c.response.ensures) in
    subst (Adds now now) (sym (told_absent c.args.id.now c.args.trail.now ms group absent)) (adds_none now)

pub take_group-returns-then-is_typename-clause-said : goal.take_group-returns-then-is_typename-clause-said
take_group-returns-then-is_typename-clause-said t c =
    let ms = members_view c.args.members.now.map.now.entries in
    let group = c.args.group.now in
    let now = with_open c.args.id.now c.args.fields.now.items c.args.rows.now in
    let is : is_typename group.first.ask.form ≡ true = ap is_typename (sym c.form.ensures) ∙ sym c.is_typename.ensures ∙ c.if-is_typename.true in
    subst (Adds now now) (sym (told_typename c.args.id.now c.args.trail.now ms group is)) (adds_none now)

pub take_groups-take_group-requires : goal.take_groups-take_group-requires
take_groups-take_group-requires t c =
    let same : plans_of c.groups.below ≡ parts_of c.args.groups.now = ap plans_of c.groups.invariant.1 ∙ c.requires in
    let inside : c.groups.at < length c.args.groups.now = search rules in
    let held : members_view c.in_ok-among.among.map.now.entries ≡ members_view c.args.members.now.entries = λ i. members_view (c.in_ok-among.ensures.map i).entries in
    (omega (arith, c.decreases, ap (λ ms. J.depth (J.object ms)) held), (plans_at c.groups.below c.args.groups.now c.groups.at c.index-below-at.result c.index-groups-at.result same inside c.index-groups-at.is, c.in_ok-among.ensures.tabled))

pub take_groups-groups-preserved : goal.take_groups-groups-preserved
take_groups-groups-preserved t c =
    let inside : c.groups.at < length c.args.groups.now = search rules in
    let id = c.args.id.now in
    let held : members_view c.in_ok-among.among.map.now.entries ≡ members_view c.args.members.now.entries = λ i. members_view (c.in_ok-among.ensures.map i).entries in
    let told = subst (λ ms. Adds (with_open id c.groups.fields.items c.groups.rows) (with_open id c.take_group.new.fields.items c.take_group.new.rows) (group_told id c.args.trail.now ms c.index-groups-at.result))
    held c.in_ok-take_group.ensures.said in (
      groups_taken id c.args.trail.now (members_view c.args.members.now.entries) c.args.groups.now c.groups.at c.index-groups-at.result inside c.index-groups-at.is
          (with_open id c.args.fields.now.items c.args.rows.now) (with_open id c.groups.fields.items c.groups.rows) (with_open id c.take_group.new.fields.items c.take_group.new.rows) _
          c.groups.invariant.0 told,
      ap (set c.groups.below c.groups.at) c.in_ok-take_group.ensures.below ∙ set-get_or c.groups.below c.groups.at c.index-below-at.result ∙ c.groups.invariant.1,
    )

pub take_type-index_mut-requires : goal.take_type-index_mut-requires
take_type-index_mut-requires t c =
    subst (λ n. c.in_ok-at.at < n) (sym c.place_of.new.types.ok.0) (type_within c.place_of.new.types.items c.in_ok-at.at c.args.name.now c.in_ok-at.ensures.place)

pub take_type-take_typed-requires : goal.take_type-take_typed-requires
take_type-take_typed-requires t c =
    let right = right_at (map plan_at c.deref.result.now) c.place_of.new.types.items c.in_ok-at.at c.index_mut.result.now c.args.name.now c.in_ok-at.ensures.right c.in_ok-at.ensures.place c.index_mut.ensures.value in
    (omega arith, right.below)

pub take_type-returns-clause-id : goal.take_type-returns-clause-id
take_type-returns-clause-id t c =
    IfOk-weaker c.take_typed.result _ _
    (λ id h. h ∙ ap (λ (r : Option Text × Report). r.0)
    (type_told (members_view c.args.members.now.entries) (below_at c.args.type_below.now) (map plan_at c.deref.result.now) c.args.below.now.parts c.place_of.new.types.items c.in_ok-at.at
    c.index_mut.result.now c.args.name.now (id_of c.args.place.now) c.args.trail.now c.in_ok-at.ensures.right c.in_ok-at.ensures.place c.index_mut.ensures.value
    (ap (map plan_at) c.deref.ensures.value ∙ ap (λ (k : Caching). k.parts) c.below.view_is))) c.take_typed.ensures.id

pub take_type-returns-clause-said : goal.take_type-returns-clause-said
take_type-returns-clause-said t c =
    on_ok_weaker c.take_typed.result
    (subst (λ (r : Option Text × Report). Adds c.args.rows.now c.take_typed.new.rows r.1)
    (type_told (members_view c.args.members.now.entries) (below_at c.args.type_below.now) (map plan_at c.deref.result.now) c.args.below.now.parts c.place_of.new.types.items c.in_ok-at.at
    c.index_mut.result.now c.args.name.now (id_of c.args.place.now) c.args.trail.now c.in_ok-at.ensures.right c.in_ok-at.ensures.place c.index_mut.ensures.value
    (ap (map plan_at) c.deref.ensures.value ∙ ap (λ (k : Caching). k.parts) c.below.view_is))) c.take_typed.ensures.said

pub take_typed-returns-clause-id : goal.take_typed-returns-clause-id
take_typed-returns-clause-id t c =
    let path = c.args.trail.now in
    let ms = members_view c.args.members.now.entries in
    let b = below_at c.args.type_below.now in
    let name = c.args.of.now.name.now in
    let groups = c.args.of.now.groups in
    let made = id_of c.args.place.now in
    let here = path ++ Key (codes "id") ∷ [] in
    let whole = named_says collect_plan ms (walks_of collect_plan ms) b name groups made path in
    let own = id_under (has_text b.identified name) made here (get_member (codes "id") ms) in
    let known : c.is_other_type.result ≡ false = search rules in
    let other : (not b.open_type && is_misnamed name (responses groups) (get_member typename ms)) ≡ false =
    sym c.is_other_type.ensures ∙ known in
    let id : c.in_ok-id.id ≡ own.0 = c.in_ok-id.ensures.id ∙ (λ i. (id_under (c.contains-has_id.ensures i) made here (c.member.ensures i)).0) in
    let link : c.in_ok-link.link ≡ c.in_ok-id.id = search rules in
    ap Some (link ∙ id) ∙ ap (λ x. (unless_misnamed x path whole).0) (sym other)

pub take_typed-returns-clause-said : goal.take_typed-returns-clause-said
take_typed-returns-clause-said t c =
    let path = c.args.trail.now in
    let ms = members_view c.args.members.now.entries in
    let b = below_at c.args.type_below.now in
    let name = c.args.of.now.name.now in
    let groups = c.args.of.now.groups in
    let made = id_of c.args.place.now in
    let here = path ++ Key (codes "id") ∷ [] in
    let whole = named_says collect_plan ms (walks_of collect_plan ms) b name groups made path in
    let own = id_under (has_text b.identified name) made here (get_member (codes "id") ms) in
    let known : c.is_other_type.result ≡ false = search rules in
    let other : (not b.open_type && is_misnamed name (responses groups) (get_member typename ms)) ≡ false =
    sym c.is_other_type.ensures ∙ known in
    let id : c.in_ok-id.id ≡ own.0 = c.in_ok-id.ensures.id ∙ (λ i. (id_under (c.contains-has_id.ensures i) made here (c.member.ensures i)).0) in
    let taken : Adds c.args.rows.now c.take_id.new.rows own.1 =
    subst (λ (r : Report). Adds c.args.rows.now c.take_id.new.rows r) (λ i. (id_under (c.contains-has_id.ensures i) made here (c.member.ensures i)).1) c.in_ok-id.ensures.said in
    let row : c.in_ok-into_words.field-0 ≡ c.in_ok-id.id = search rules in
    subst (λ x. Adds c.args.rows.now c.push.new.self (unless_misnamed x path whole).1) (sym other)
    (object_taken c.take_id.new.rows c.take_groups.new.rows c.push.new.self c.in_ok-id.id own.0 c.in_ok-into_words.field-0 c.in_ok-new.field-0 name c.in_ok-fields.fields.items c.take_groups.new.fields.items path ms c.as_slice-2.result.now groups
    id (search rules) (search rules) row (search rules) c.in_ok-take_groups.ensures.said c.in_ok-push.ensures.facts c.in_ok-push.ensures.pages c.in_ok-push.ensures.fault c.args.rows.now own.1 taken)

pub take_element-returns-in-Object-clause-id : goal.take_element-returns-in-Object-clause-id
take_element-returns-in-Object-clause-id t c =
    let is : view c.args.value.now ≡ J.object (members_view c.in-Object.members.entries) = ap view c.in-Object.is ∙ view-Object c.in-Object.members in
    subst (λ (d : J.Data). IfOk c.take_object.result (λ id. id ≡ (element_of collect_plan d (below_at c.args.type_below.now) c.args.below.now.parts (id_of c.args.place.now) c.args.trail.now).0)) (sym is) c.take_object.ensures.id

pub take_element-returns-in-Object-clause-said : goal.take_element-returns-in-Object-clause-said
take_element-returns-in-Object-clause-said t c =
    let is : view c.args.value.now ≡ J.object (members_view c.in-Object.members.entries) = ap view c.in-Object.is ∙ view-Object c.in-Object.members in
    subst (λ (d : J.Data). OnOk c.take_object.result (Adds c.args.rows.now c.take_object.new.rows (element_of collect_plan d (below_at c.args.type_below.now) c.args.below.now.parts (id_of c.args.place.now) c.args.trail.now).1)) (sym is) c.take_object.ensures.said

pub take_elements-returns-clause-said : goal.take_elements-returns-clause-said
take_elements-returns-clause-said t c =
    let path = c.args.trail.now in
    let items = c.args.items.now.items in
    let at = c.items.at in
    let b = below_at c.args.type_below.now in
    let made = made_at c.args.place.now in
    let end : length items ≤ at = search rules in
    let whole = (elements_under (elements_of collect_plan (items_view items)) b c.args.below.now.parts made 0 path).1 in
    ends_here c.args.rows.now c.items.rows whole
    (subst (λ (xs : List Value). Ends c.args.rows.now c.items.rows (elements_under (elements_of collect_plan (items_view xs)) b c.items.below.parts made at path).1 whole)
    (drop_all at items end) c.items.invariant.0)

pub take_groups-returns-clause-said : goal.take_groups-returns-clause-said
take_groups-returns-clause-said t c =
    let path = c.args.trail.now in
    let id = c.args.id.now in
    let groups = c.args.groups.now in
    let walks = walks_of collect_plan (members_view c.args.members.now.entries) in
    let start = with_open id c.args.fields.now.items c.args.rows.now in
    let now = with_open id c.groups.fields.items c.groups.rows in
    let end : length groups ≤ c.groups.at = search rules in
    ends_here start now (groups_say collect_plan id path walks groups)
    (subst (λ gs. Ends start now (groups_say collect_plan id path walks gs) (groups_say collect_plan id path walks groups)) (drop_all c.groups.at groups end) c.groups.invariant.0)

pub take_list-returns-in_ok-ids-in-Array-clause-said : goal.take_list-returns-in_ok-ids-in-Array-clause-said
take_list-returns-in_ok-ids-in-Array-clause-said t c =
    let is : view c.args.value.now ≡ J.array (items_view c.in-Array.items.items) = ap view c.in-Array.is ∙ view-Array c.in-Array.items in
    subst (λ (d : J.Data). Adds c.args.rows.now c.take_elements.new.rows (walk_of collect_plan d (many (below_at c.args.type_below.now)) c.args.below.now.parts (made_at c.args.place.now) c.args.trail.now).1)
    (sym is) c.in_ok-ids-in-Array.ensures.said

pub take_value-returns-in-Leaf-clause-field : goal.take_value-returns-in-Leaf-clause-field
take_value-returns-in-Leaf-clause-field t c =
    let d = view c.args.value.now in
    let fs = c.args.below.now.parts in
    let made = made_at c.args.place.now in
    let path = c.args.trail.now in
    IfOk-weaker c.leaf_of.result _ _
    (λ field h. h ∙ sym (ap (λ (r : Field × Report). r.0) (ap (λ (f : FormAt). walk_of collect_plan d (form_at f) fs made path) c.in-Leaf.is ∙ leaf_walk d fs made path)))
    c.leaf_of.ensures.field

pub take_value-returns-in-Leaf-clause-said : goal.take_value-returns-in-Leaf-clause-said
take_value-returns-in-Leaf-clause-said t c =
    let d = view c.args.value.now in
    let fs = c.args.below.now.parts in
    let made = made_at c.args.place.now in
    let path = c.args.trail.now in
    on_ok_weaker c.leaf_of.result
    (subst (λ (r : Field × Report). Adds c.args.rows.now c.leaf_of.new.rows r.1) (sym (ap (λ (f : FormAt). walk_of collect_plan d (form_at f) fs made path) c.in-Leaf.is ∙ leaf_walk d fs made path)))
    c.leaf_of.ensures.said

pub take_value-returns-in_ok-id-in-One-clause-field : goal.take_value-returns-in_ok-id-in-One-clause-field
take_value-returns-in_ok-id-in-One-clause-field t c =
    let path = c.args.trail.now in
    let d = view c.args.value.now in
    let fs = c.args.below.now.parts in
    let place = c.args.place.now in
    let b = below_at c.in-One.type_below in
    let told : walk_of collect_plan d (form_at c.args.form.now) fs (made_at place) path ≡ link_of (element_of collect_plan d b fs (made_at place None) path)
    = ap (λ (f : FormAt). walk_of collect_plan d (form_at f) fs (made_at place) path) c.in-One.is ∙ one_walk d b fs (made_at place) path in
    c.link_or_null.ensures
    ∙ ap link_or_null (c.in_ok-id-in-One.ensures.id ∙ (λ i. (element_of collect_plan d b fs (client_id place.parent.now place.key.now (c.requires i)) path).0))
    ∙ sym (ap (λ (r : Field × Report). r.0) told)

pub take_value-returns-in_ok-id-in-One-clause-said : goal.take_value-returns-in_ok-id-in-One-clause-said
take_value-returns-in_ok-id-in-One-clause-said t c =
    let path = c.args.trail.now in
    let d = view c.args.value.now in
    let fs = c.args.below.now.parts in
    let place = c.args.place.now in
    let b = below_at c.in-One.type_below in
    let told : walk_of collect_plan d (form_at c.args.form.now) fs (made_at place) path ≡ link_of (element_of collect_plan d b fs (made_at place None) path)
    = ap (λ (f : FormAt). walk_of collect_plan d (form_at f) fs (made_at place) path) c.in-One.is ∙ one_walk d b fs (made_at place) path in
    subst (Adds c.args.rows.now c.take_element.new.rows) (sym (ap (λ (r : Field × Report). r.1) told))
    (subst (λ (index : Option ℕ). Adds c.args.rows.now c.take_element.new.rows (element_of collect_plan d b fs (client_id place.parent.now place.key.now index) path).1) c.requires
    c.in_ok-id-in-One.ensures.said)
