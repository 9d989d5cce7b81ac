-- One element more, one group more, a field, and an object of a type.
use Rattle.std.proofs.Common.{rules, ◌≡◌, ◌+◌, ◌<◌, ◌≤◌, false, not, ◌&&◌, ◌++◌, ◌∷◌, [], codes, map, drop, set, length, get_or, Some, None, IfOk, OnOk, subst, sym, ap, ◌∙◌, arith}
use Rattle.std.proofs.lemmas.List.{set-get_or}
use Rattle.plan_ir.specs.gql_plain.Order.{has_text}
use Rattle.plan_ir.specs.gql_plain.declared.plain.Plain.TheVariants.{Null, Text as Words}
use Rattle.plan_groups.specs.FieldView.{below_at, plan_at}
use Rattle.plan_ir.specs.NormalMeaning.{collect_plan}
use Rattle.serde_json.specs.Data as J
use Rattle.serde_json.specs.Find.{get_member}
use Rattle.serde_json.specs.View.{items_view, members_view, view}
use Rattle.plan_ir.proofs.store_model_laws.Smaller.{found_smaller}
use Rattle.plan_ir.specs.store_model.Items.{key_of, parts}
use Rattle.plan_ir.specs.store_model.Records.{typename}
use Rattle.plan_ir.specs.store_model.Says.{Report, elements_of, elements_under, groups_say, id_under, is_misnamed, named_says, pages_of, put_at, report_pages, responses, unless_misnamed, walk_of, walks_of}
use Rattle.plan_ir.specs.store_model.declared.payload_fault.PathStep.TheVariants.{Index, Key}
use Rattle.store_norm.proofs.CacheSteps.{plans_at, right_at, same_type, type_within}
use Rattle.store_norm.proofs.FieldSteps.{field_said, said_thrice, type_told}
use Rattle.store_norm.proofs.Reports.{gathered_none}
use Rattle.store_norm.proofs.WalkSteps.{below_walk, element_below, element_deep, elements_ids, elements_said, groups_said, member_below, told_absent, told_present}
use Rattle.store_norm.proofs.walk.+walk.Goals as goal
use Rattle.store_norm.specs.Caching.{Caching, parts_below, parts_of, plans_of}
use Rattle.store_norm.specs.MadeView.{id_of, made_at}
use Rattle.store_norm.specs.Walk.{group_told, is_typename}
use Rattle.plan_ir.specs.store_record.Keys.{client_id}
use Rattle.plan_ir.specs.store_record.declared.field.Field.{Field}
use Rattle.plan_ir.specs.store_record.declared.field.Field.TheVariants.{Leaf}
use Rattle.store_report.specs.Gathering.{gathered_onto, with_value}

pub say_elements-say_element-requires : goal.say_elements-say_element-requires
say_elements-say_element-requires t c =
    let deep : J.depth (view c.item-item.result) ≤ J.items_depth (items_view c.args.items.now.items) =
    element_deep c.args.items.now.items c.items.at c.item-item.result (search rules) (search rules) in
    let less = element_below (J.depth (view c.item-item.result)) (J.items_depth (items_view c.args.items.now.items)) deep in
    (omega (arith, less, c.decreases), tt)

pub say_elements-items-preserved : goal.say_elements-items-preserved
say_elements-items-preserved t c =
    let items = c.args.items.now.items in
    let at = c.items.at in
    let item = c.item-item.result in
    let b = below_at c.args.type_below.now in
    let made = made_at c.args.place.now in
    let path = c.args.path.now in
    let here = c.in_ok-path.path in
    let fs = c.items.below.parts in
    let within : at < length items = search rules in
    let is : item ≡ get_or items at item = search rules in
    let there : here ≡ path ++ Index at ∷ [] = c.in_ok-path.ensures in (
      ap (λ (k : Caching). gathered_onto c.say_element.new.gathered (elements_under (elements_of collect_plan (items_view (drop (at + 1) items))) b k.parts made (at + 1) path).1) c.in_ok-id.ensures.below
          ∙ elements_said items at item b fs made path here within is there _ c.items.gathered c.say_element.new.gathered c.items.invariant.0 c.in_ok-id.ensures.said,
      ap (λ (k : Caching). c.push.new.self ++ (elements_under (elements_of collect_plan (items_view (drop (at + 1) items))) b k.parts made (at + 1) path).0) c.in_ok-id.ensures.below
          ∙ elements_ids items at item b fs made path here within is there _ c.items.ids c.push.new.self c.in_ok-id.id c.items.invariant.1 c.in_ok-id.ensures.id c.in_ok-push.ensures.ok,
      c.in_ok-id.ensures.below ∙ c.items.invariant.2,
    )

pub say_field-returns-clause-said : goal.say_field-returns-clause-said
say_field-returns-clause-said t c =
    let g = c.args.gathered.now in
    let id = c.args.id.now in
    let group = c.args.group.now in
    let key = key_of group.first.ask in
    let d = view c.args.value.now in
    let path = c.args.path.now ++ Key group.first.ask.response ∷ [] in
    let path_is : c.args.path.now ++ Key c.response-response.result.now ∷ [] ≡ path = ap (λ r. c.args.path.now ++ Key r ∷ []) c.response-response.ensures in
    let says_all = walk_of collect_plan d group.first.ask.form (parts group) (client_id id key) path in
    let below : walk_of collect_plan d group.first.ask.form (parts_below group) (client_id id key) path ≡ says_all = below_walk d group.first.ask.form (parts group) (client_id id key) path in
    let put : c.field.new.self ≡ gathered_onto g (put_at id key (Leaf Null) path) =
    c.in_ok-at.ensures.put ∙ (λ i. gathered_onto g (put_at id (c.key.ensures i) (Leaf Null) (path_is i))) in
    let said : c.say_value.new.gathered ≡ gathered_onto c.say_pages.new.gathered says_all.1 =
    c.in_ok-field.ensures.said
    ∙ (λ i. gathered_onto c.say_pages.new.gathered (walk_of collect_plan d (c.form.ensures i) (c.requires i) (client_id id (c.key-2.ensures i)) (path_is i)).1)
    ∙ ap (λ (r : Field × Report). gathered_onto c.say_pages.new.gathered r.1) below in
    let value : c.in_ok-field.field ≡ says_all.0 =
    c.in_ok-field.ensures.field ∙ (λ i. (walk_of collect_plan d (c.form.ensures i) (c.requires i) (client_id id (c.key-2.ensures i)) (path_is i)).0) ∙ ap (λ (r : Field × Report). r.0) below in
    field_said g c.field.new.self c.say_pages.new.gathered c.say_value.new.gathered id key (Leaf Null) path (report_pages (pages_of collect_plan id group)) says_all.1 c.in_ok-at.at
    c.in_ok-at.ensures.place put c.in_ok-say_pages.ensures said says_all.0 c.set.new.self
    (c.set.ensures ∙ ap (λ v. with_value c.in_ok-at.at v c.say_value.new.gathered) value)

pub say_group-say_field-requires : goal.say_group-say_field-requires
say_group-say_field-requires t c =
    let ms = members_view c.args.members.now.map.now.entries in
    let there : get_member c.args.group.now.first.ask.response ms ≡ Some (view c.in-Some.value.now) =
    sym (c.in-Some.ensures ∙ ap (λ k. get_member k ms) c.response.ensures) in
    let less = member_below (J.depth (view c.in-Some.value.now)) (J.depth (J.object ms)) (found_smaller.0 c.args.group.now.first.ask.response ms (view c.in-Some.value.now) there) in
    (omega (arith, less, c.decreases), c.requires.below)

pub say_group-returns-in-Some-clause-said : goal.say_group-returns-in-Some-clause-said
say_group-returns-in-Some-clause-said t c =
    let ms = members_view c.args.members.now.map.now.entries in
    let group = c.args.group.now in
    let there : get_member group.first.ask.response ms ≡ Some (view c.in-Some.value.now) = sym (c.in-Some.ensures ∙ ap (λ k. get_member k ms) c.response.ensures) in
    let other : c.is_typename.result ≡ false = search rules in
    let field : is_typename group.first.ask.form ≡ false = ap is_typename (sym c.form.ensures) ∙ sym c.is_typename.ensures ∙ other in
    subst (λ r. OnOk c.say_field.result (c.say_field.new.gathered ≡ gathered_onto c.args.gathered.now r))
    (sym (told_present c.args.id.now c.args.path.now ms group (view c.in-Some.value.now) field there)) c.say_field.ensures.said

pub say_group-returns-in-None-clause-said : goal.say_group-returns-in-None-clause-said
say_group-returns-in-None-clause-said t c =
    let ms = members_view c.args.members.now.map.now.entries in
    let group = c.args.group.now in
    let absent : get_member group.first.ask.response ms ≡ None = sym (c.in-None.ensures ∙ ap (λ k. get_member k ms) c.response.ensures) in
    sym (gathered_none c.args.gathered.now) ∙ ap (gathered_onto c.args.gathered.now) (sym (told_absent c.args.id.now c.args.path.now ms group absent))

pub say_groups-say_group-requires : goal.say_groups-say_group-requires
say_groups-say_group-requires t c =
    let same : plans_of c.groups.below ≡ parts_of c.args.groups.now = ap plans_of c.groups.invariant.1 ∙ c.requires in
    let inside : c.groups.at < length c.args.groups.now = search rules in
    let held : members_view c.in_ok-among.among.map.now.entries ≡ members_view c.args.members.now.entries = λ i. members_view (c.in_ok-among.ensures.map i).entries in
    (omega (arith, c.decreases, ap (λ ms. J.depth (J.object ms)) held), (plans_at c.groups.below c.args.groups.now c.groups.at c.index-below-at.result c.index-groups-at.result same inside c.index-groups-at.is, c.in_ok-among.ensures.tabled))

pub say_groups-groups-preserved : goal.say_groups-groups-preserved
say_groups-groups-preserved t c =
    let inside : c.groups.at < length c.args.groups.now = search rules in
    let held : members_view c.in_ok-among.among.map.now.entries ≡ members_view c.args.members.now.entries = λ i. members_view (c.in_ok-among.ensures.map i).entries in
    let told = c.in_ok-say_group.ensures.said ∙ ap (λ ms. gathered_onto c.groups.gathered (group_told c.args.id.now c.args.path.now ms c.index-groups-at.result)) held in (
      groups_said c.args.id.now c.args.path.now (members_view c.args.members.now.entries) c.args.groups.now c.groups.at c.index-groups-at.result inside c.index-groups-at.is
          _ c.groups.gathered c.say_group.new.gathered c.groups.invariant.0 told,
      ap (set c.groups.below c.groups.at) c.in_ok-say_group.ensures.below ∙ set-get_or c.groups.below c.groups.at c.index-below-at.result ∙ c.groups.invariant.1,
    )

pub say_type-index_mut-requires : goal.say_type-index_mut-requires
say_type-index_mut-requires t c =
    subst (λ n. c.in_ok-at.at < n) (sym c.place_of.new.types.ok.0) (type_within c.place_of.new.types.items c.in_ok-at.at c.args.name.now c.in_ok-at.ensures.place)

pub say_type-say_typed-requires : goal.say_type-say_typed-requires
say_type-say_typed-requires t c =
    let right = right_at (map plan_at c.deref.result.now) c.place_of.new.types.items c.in_ok-at.at c.index_mut.result.now c.args.name.now c.in_ok-at.ensures.right c.in_ok-at.ensures.place c.index_mut.ensures.value in
    (omega arith, right.below)

pub say_type-returns-clause-id : goal.say_type-returns-clause-id
say_type-returns-clause-id t c =
    let told = type_told (members_view c.args.members.now.entries) (below_at c.args.type_below.now) (map plan_at c.deref.result.now) c.args.below.now.parts c.place_of.new.types.items c.in_ok-at.at
    c.index_mut.result.now c.args.name.now (id_of c.args.place.now) c.args.path.now c.in_ok-at.ensures.right c.in_ok-at.ensures.place c.index_mut.ensures.value
    (ap (map plan_at) c.deref.ensures.value ∙ ap (λ (k : Caching). k.parts) c.below.view_is) in
    subst (λ r. IfOk c.say_typed.result (λ id. id ≡ r.0)) told c.say_typed.ensures.id

pub say_type-returns-clause-said : goal.say_type-returns-clause-said
say_type-returns-clause-said t c =
    let told = type_told (members_view c.args.members.now.entries) (below_at c.args.type_below.now) (map plan_at c.deref.result.now) c.args.below.now.parts c.place_of.new.types.items c.in_ok-at.at
    c.index_mut.result.now c.args.name.now (id_of c.args.place.now) c.args.path.now c.in_ok-at.ensures.right c.in_ok-at.ensures.place c.index_mut.ensures.value
    (ap (map plan_at) c.deref.ensures.value ∙ ap (λ (k : Caching). k.parts) c.below.view_is) in
    subst (λ r. OnOk c.say_typed.result (c.say_typed.new.gathered ≡ gathered_onto c.args.gathered.now r.1)) told c.say_typed.ensures.said

pub say_typed-returns-in_err-say_groups-clause-below : goal.say_typed-returns-in_err-say_groups-clause-below
say_typed-returns-in_err-say_groups-clause-below t c = same_type c.args.of.now c.say_groups.new.below (c.say_groups.ensures.below ∙ c.deref_mut.ensures.value)

pub say_typed-returns-in_err-copy-clause-below : goal.say_typed-returns-in_err-copy-clause-below
say_typed-returns-in_err-copy-clause-below t c = same_type c.args.of.now c.say_groups.new.below (c.say_groups.ensures.below ∙ c.deref_mut.ensures.value)

pub say_typed-returns-clause-said : goal.say_typed-returns-clause-said
say_typed-returns-clause-said t c =
    let g = c.args.gathered.now in
    let ms = members_view c.args.members.now.entries in
    let b = below_at c.args.type_below.now in
    let name = c.args.of.now.name.now in
    let groups = c.args.of.now.groups in
    let made = id_of c.args.place.now in
    let path = c.args.path.now in
    let here = path ++ Key (codes "id") ∷ [] in
    let whole = named_says collect_plan ms (walks_of collect_plan ms) b name groups made path in
    let own = id_under (has_text b.identified name) made here (get_member (codes "id") ms) in
    let known : c.is_other_type.result ≡ false = search rules in
    let other : (not b.open_type && is_misnamed name (responses groups) (get_member typename ms)) ≡ false =
    sym c.is_other_type.ensures ∙ known in
    let id : c.in_ok-id.id ≡ own.0 = c.in_ok-id.ensures.id ∙ (λ i. (id_under (c.contains-has_id.ensures i) made here (c.member.ensures i)).0) in
    let first : c.object_id.new.gathered ≡ gathered_onto g own.1 = c.in_ok-id.ensures.said ∙ (λ i. gathered_onto g (id_under (c.contains-has_id.ensures i) made here (c.member.ensures i)).1) in
    let second : c.name.new.self ≡ gathered_onto c.object_id.new.gathered (put_at own.0 typename (Leaf (Words name)) path) =
    c.in_ok-name.ensures ∙ (λ i. gathered_onto c.object_id.new.gathered (put_at (id i) typename (Leaf (Words (c.in_ok-new.ensures i))) path)) in
    let third : c.say_groups.new.gathered ≡ gathered_onto c.name.new.self (groups_say collect_plan own.0 path (walks_of collect_plan ms) groups) =
    c.in_ok-say_groups.ensures.said ∙ (λ i. gathered_onto c.name.new.self (groups_say collect_plan (id i) path (walks_of collect_plan ms) (c.as_slice.ensures i))) in
    said_thrice g c.object_id.new.gathered c.name.new.self c.say_groups.new.gathered own.1 (put_at own.0 typename (Leaf (Words name)) path) (groups_say collect_plan own.0 path (walks_of collect_plan ms) groups) first second third
    ∙ ap (λ x. gathered_onto g (unless_misnamed x path whole).1) (sym other)

pub say_typed-returns-clause-below : goal.say_typed-returns-clause-below
say_typed-returns-clause-below t c = same_type c.args.of.now c.say_groups.new.below (c.say_groups.ensures.below ∙ c.deref_mut.ensures.value)
