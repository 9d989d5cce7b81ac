-- A record by its slot, a step by the items that it gives, and one step, element or pointer more.
use Rattle.std.proofs.Common.{rules, ◌≡◌, suc, ◌+◌, ◌<◌, ◌≤◌, ◌++◌, ◌∷◌, [], true, false, Some, OnOk, length, get_or, option_copied, refl, subst, sym, ap, ◌∙◌, arith}
use Rattle.std.proofs.lemmas.Result.{on_ok_weaker}
use Rattle.plan_ir.specs.gql_plain.Order.{has_text}
use Rattle.plan_ir.specs.gql_plain.ToJson.{tree_tokens}
use Rattle.plan_ir.specs.gql_plain.Tree.{list, trees_of}
use Rattle.json.specs.Token.{key}
use Rattle.store_read.proofs.plan_groups_laws.GroupSteps.{only_key}
use Rattle.store_read.specs.plan_groups.FieldView.{form_at}
use Rattle.plan_ir.proofs.KeptKeys.{kept_key}
use Rattle.plan_ir.proofs.ReaderKeys.{key_at, keys_counted}
use Rattle.plan_ir.proofs.StepDepths.{step_within}
use Rattle.plan_ir.specs.Reader.{depth}
use Rattle.plan_ir.specs.ReaderKeys.{keys_of}
use Rattle.plan_ir.specs.ReaderMeaning.{collect_reading}
use Rattle.plan_ir.specs.ReaderView.{step_of}
use Rattle.plan_ir.specs.declared.reader.ReaderStep.{ReaderStep}
use Rattle.plan_order.specs.Walk.{alone, before, behind, field_met, field_shown, fields_met, fields_shown, is_taken, object_in_order, pointers_met, pointers_shown}
use Rattle.plan_ir.specs.store_model.Items.{asked, pointed}
use Rattle.plan_ir.specs.store_model.Walks.{Found, Shown, Trace, element_at, elements_at, field_of, group_at, join_traces, mark_members, or_null, pointer_at, read_key, shown_object, value_at}
use Rattle.store_read.proofs.GatherSteps.{collect_pointer, guarded_deep}
use Rattle.store_read.proofs.LoopSteps.{drop_at, looks_here, looks_next, shown_next}
use Rattle.store_read.proofs.ReadSteps.{live_looks}
use Rattle.store_read.specs.FieldView.{ask_at, asked_at, part_at, spread_at, steps_or_done}
use Rattle.store_read.specs.Reading.{slots}
use Rattle.store_read.specs.Walked.{if_possible}
use Rattle.plan_ir.specs.store_record.declared.record.Slot.TheVariants.{Alive}
use Rattle.store_show.proofs.ShowDepths.{leaf_deep, object_deep, pointer_deep, typename_deep}
use Rattle.store_show.proofs.ShowItems.{field_stood, field_tokens, field_trace, marks_of, none_met, none_shown, nothing_met, nothing_written, object_items, pointer_stood, pointer_tokens, pointer_trace}
use Rattle.store_show.proofs.ShowParts.{object_around, one_of_three, possible_shown, three_looks, three_met, three_written, two_of_three}
use Rattle.store_show.proofs.ShowReads.{walks_live, walks_nothing}
use Rattle.store_show.proofs.ShowSteps.{fields_met-append, fields_tokens-append, pointers_met-append, pointers_tokens-append, step_looks, step_looks_here, step_met, step_shown}
use Rattle.store_show.proofs.ShowTokens.{led_alone, led_member, list_written, member_written, object_written, then_two}
use Rattle.store_show.proofs.StoodSteps.{stood_live, stood_next, stood_nothing}
use Rattle.store_show.specs.Showing.{below, elements_tokens, fields_of, has_pointed, identity, items_at, lead_of, led, members_at, members_met_at, next_at, object_shown_at, pairs_tokens, pointers_at, pointers_met_at, walks}
use Rattle.store_show.specs.Spans.{span_of}
use Rattle.store_show.specs.declared.lead.Lead.TheVariants.{Member, Alone}
use Rattle.store_show.specs.Stood.{stood_onto}
use Rattle.store_show.proofs.showing.+show.Goals as goal

-- ---- elements of a list

pub show_elements-show_element-requires : goal.show_elements-show_element-requires
show_elements-show_element-requires g t c =
    λ k h. (omega (arith, c.decreases), h)

pub show_elements-ids-preserved : goal.show_elements-ids-preserved
show_elements-ids-preserved g t c =
    let next = below (g.S.RecordSource.records c.args.store.now.source.now) c.args.store.now.root.now c.args.store.now.owner.now c.args.levels in
    let one = element_at next c.args.types.now (part_at c.args.part ∷ []) in
    let all = elements_at next c.args.types.now (part_at c.args.part ∷ []) in
    let es = c.args.ids.now in
    let e = c.id-item.result in
    let within : c.ids.id-index < length es = search rules in
    let item : e ≡ get_or es c.ids.id-index e = search rules in
    let is = drop_at es c.ids.id-index e within item in
    record {
      shown = shown_next (λ a. tree_tokens (one a).0) (λ bs. elements_tokens (all bs).0) (λ a. (one a).1) (λ bs. (all bs).1) (λ a bs. refl) (λ a bs. refl) es c.ids.id-index e is _ _ _ c.ids.invariant.shown c.in_ok-show_element.ensures.shown;
      before = c.show_element.ensures.before ∙ c.ids.invariant.before;
      met = stood_next (λ a. (one a).1) (λ bs. (all bs).1) (λ a bs. refl) es c.ids.id-index e is _ _ _ c.ids.invariant.met c.in_ok-show_element.ensures.met;
      looks = looks_next (λ a. tree_tokens (one a).0) (λ bs. elements_tokens (all bs).0) (λ a. (one a).1) (λ bs. (all bs).1) (λ a bs. refl) (λ a bs. refl) es c.ids.id-index e is _ _ _ c.ids.invariant.looks c.show_element.ensures.looks;
      applies = c.show_element.ensures.applies ∙ c.ids.invariant.applies;
    }

pub show_elements-returns-in_err-show_element-clause-looks : goal.show_elements-returns-in_err-show_element-clause-looks
show_elements-returns-in_err-show_element-clause-looks g t c =
    let next = below (g.S.RecordSource.records c.args.store.now.source.now) c.args.store.now.root.now c.args.store.now.owner.now c.args.levels in
    let one = element_at next c.args.types.now (part_at c.args.part ∷ []) in
    let all = elements_at next c.args.types.now (part_at c.args.part ∷ []) in
    let es = c.args.ids.now in
    let e = c.id-item.result in
    let within : c.ids.id-index < length es = search rules in
    let item : e ≡ get_or es c.ids.id-index e = search rules in
    let is = drop_at es c.ids.id-index e within item in
    looks_here (λ a. tree_tokens (one a).0) (λ bs. elements_tokens (all bs).0) (λ a. (one a).1) (λ bs. (all bs).1) (λ a bs. refl) (λ a bs. refl) es c.ids.id-index e is _ _ _ c.ids.invariant.looks c.show_element.ensures.looks

-- ---- an element of a list

pub show_element-returns-in-Some-clause-shown : goal.show_element-returns-in-Some-clause-shown
show_element-returns-in-Some-clause-shown g t c =
    let next = below (g.S.RecordSource.records c.args.store.now.source.now) c.args.store.now.root.now c.args.store.now.owner.now c.args.levels in
    let one = element_at next c.args.types.now (part_at c.args.part ∷ []) in
    let is = led_alone (next c.args.types.now (part_at c.args.part ∷ []) c.as_str.result.now).0 in
    let whole = ap (λ i. tree_tokens (one (Some i)).0) c.as_str.ensures ∙ ap (λ e. tree_tokens (one e).0) (sym c.in-Some.is) in
    subst (λ ts. OnOk c.show_record.result (c.show_record.new.out.tokens ≡ c.args.out.now.tokens ++ ts)) (is ∙ whole) c.show_record.ensures.shown

-- ---- fields

pub show_fields-show_step-requires : goal.show_fields-show_step-requires
show_fields-show_step-requires g t c =
    let inside : c.steps.place < length c.as_slice-items.result.now = search rules in
    let less : depth (step_of c.index-items-place.result) ≤ depth c.args.plan.now = step_within _ c.steps.place c.index-items-place.result _ inside c.index-items-place.is c.steps.invariant.within in
    let kept = key_at c.as_slice-items.result.now c.keys-keys.result.now c.steps.place c.index-items-place.result c.index-keys-place.result inside c.index-items-place.is (c.keys-keys.ensures ∙ ap keys_of (sym c.as_slice-items.ensures)) c.index-keys-place.is in
    λ k h. (omega (arith, less, c.decreases), (h.0, (h.1, kept)))

pub show_fields-bounds-keys-place : goal.show_fields-bounds-keys-place
show_fields-bounds-keys-place g t c =
    let inside : c.steps.place < length c.as_slice-items.result.now = search rules in
    let many : length c.keys-keys.result.now ≡ length c.as_slice-items.result.now = ap length (c.keys-keys.ensures ∙ ap keys_of (sym c.as_slice-items.ensures)) ∙ keys_counted c.as_slice-items.result.now in
    omega (arith, inside, many)

pub show_fields-steps-preserved : goal.show_fields-steps-preserved
show_fields-steps-preserved g t c =
    let at = c.args.at in
    let next = next_at (g.S.RecordSource.records c.args.store.now.source.now) c.args.store.now.root.now c.args.store.now.owner.now at in
    let span = span_of c.args.span in
    let T = at.name.now in
    let fields = fields_of at in
    record {
      within = c.steps.invariant.within;
      shown = step_shown (λ items. pairs_tokens (fields_shown span next T fields items)) (fields_met span next T fields) (fields_tokens-append span next T fields) (fields_met-append span next T fields) at.env.now.values T c.as_slice-items.result.now c.steps.place c.index-items-place.result (search rules) c.index-items-place.is _ _ _ c.in_ok-show_step.ensures.shown c.steps.invariant.shown;
      before = c.show_step.ensures.before ∙ c.steps.invariant.before;
      met = step_met (λ items. pairs_tokens (fields_shown span next T fields items)) (fields_met span next T fields) (fields_tokens-append span next T fields) (fields_met-append span next T fields) at.env.now.values T c.as_slice-items.result.now c.steps.place c.index-items-place.result (search rules) c.index-items-place.is _ _ _ c.in_ok-show_step.ensures.met c.steps.invariant.met;
      looks = step_looks (λ items. pairs_tokens (fields_shown span next T fields items)) (fields_met span next T fields) (fields_tokens-append span next T fields) (fields_met-append span next T fields) at.env.now.values T c.as_slice-items.result.now c.steps.place c.index-items-place.result (search rules) c.index-items-place.is _ _ _ c.show_step.ensures.looks c.steps.invariant.looks;
      applies = c.show_step.ensures.applies ∙ c.steps.invariant.applies;
    }

pub show_fields-returns-in_err-show_step-clause-looks : goal.show_fields-returns-in_err-show_step-clause-looks
show_fields-returns-in_err-show_step-clause-looks g t c =
    let at = c.args.at in
    let next = next_at (g.S.RecordSource.records c.args.store.now.source.now) c.args.store.now.root.now c.args.store.now.owner.now at in
    let span = span_of c.args.span in
    let T = at.name.now in
    let fields = fields_of at in
    step_looks_here (λ items. pairs_tokens (fields_shown span next T fields items)) (fields_met span next T fields) (fields_tokens-append span next T fields) (fields_met-append span next T fields) at.env.now.values T c.as_slice-items.result.now c.steps.place c.index-items-place.result (search rules) c.index-items-place.is _ _ _ c.show_step.ensures.looks c.steps.invariant.looks

-- ---- pointers

pub show_pointers-show_pointers_of_step-requires : goal.show_pointers-show_pointers_of_step-requires
show_pointers-show_pointers_of_step-requires g t c =
    let less : depth (step_of c.step-item.result) ≤ depth c.args.plan.now = step_within _ c.steps.step-index c.step-item.result _ (omega arith) c.step-item.is c.steps.invariant.within in
    λ k h. (omega (arith, less, c.decreases), h)

pub show_pointers-steps-preserved : goal.show_pointers-steps-preserved
show_pointers-steps-preserved g t c =
    let at = c.args.at in
    let next = next_at (g.S.RecordSource.records c.args.store.now.source.now) c.args.store.now.root.now c.args.store.now.owner.now at in
    let T = at.name.now in
    let id = at.id.now in
    record {
      within = c.steps.invariant.within;
      shown = step_shown (λ items. pairs_tokens (pointers_shown next T id items)) (pointers_met next T id) (pointers_tokens-append next T id) (pointers_met-append next T id) at.env.now.values T _ c.steps.step-index c.step-item.result (search rules) c.step-item.is _ _ _ c.in_ok-show_pointers_of_step.ensures.shown c.steps.invariant.shown;
      before = c.show_pointers_of_step.ensures.before ∙ c.steps.invariant.before;
      met = step_met (λ items. pairs_tokens (pointers_shown next T id items)) (pointers_met next T id) (pointers_tokens-append next T id) (pointers_met-append next T id) at.env.now.values T _ c.steps.step-index c.step-item.result (search rules) c.step-item.is _ _ _ c.in_ok-show_pointers_of_step.ensures.met c.steps.invariant.met;
      looks = step_looks (λ items. pairs_tokens (pointers_shown next T id items)) (pointers_met next T id) (pointers_tokens-append next T id) (pointers_met-append next T id) at.env.now.values T _ c.steps.step-index c.step-item.result (search rules) c.step-item.is _ _ _ c.show_pointers_of_step.ensures.looks c.steps.invariant.looks;
      applies = c.show_pointers_of_step.ensures.applies ∙ c.steps.invariant.applies;
    }

pub show_pointers-returns-in_err-show_pointers_of_step-clause-looks : goal.show_pointers-returns-in_err-show_pointers_of_step-clause-looks
show_pointers-returns-in_err-show_pointers_of_step-clause-looks g t c =
    let at = c.args.at in
    let next = next_at (g.S.RecordSource.records c.args.store.now.source.now) c.args.store.now.root.now c.args.store.now.owner.now at in
    let T = at.name.now in
    let id = at.id.now in
    step_looks_here (λ items. pairs_tokens (pointers_shown next T id items)) (pointers_met next T id) (pointers_tokens-append next T id) (pointers_met-append next T id) at.env.now.values T _ c.steps.step-index c.step-item.result (search rules) c.step-item.is _ _ _ c.show_pointers_of_step.ensures.looks c.steps.invariant.looks

-- ---- a step

pub show_step-returns-in-Typename-clause-shown : goal.show_step-returns-in-Typename-clause-shown
show_step-returns-in-Typename-clause-shown g t c =
    let at = c.args.at in
    let next = next_at (g.S.RecordSource.records c.args.store.now.source.now) c.args.store.now.root.now c.args.store.now.owner.now at in
    let span = span_of c.args.span in
    let T = at.name.now in
    let fields = fields_of at in
    let items = items_at at (step_of c.args.step.now) in
    let is : asked (asked_at c.type_name-field.result) ∷ [] ≡ items = (ap (λ x. x ∷ []) c.type_name-field.ensures.field ∙ sym (ap (λ (y : ReaderStep). collect_reading at.env.now.values T (step_of y)) c.in-Typename.is)) in
    subst (λ ts. OnOk c.show_field.result (c.show_field.new.out.tokens ≡ c.args.out.now.tokens ++ ts)) (field_tokens span next T fields items (asked_at c.type_name-field.result) is) c.show_field.ensures.shown

pub show_step-returns-in-Typename-clause-met : goal.show_step-returns-in-Typename-clause-met
show_step-returns-in-Typename-clause-met g t c =
    let at = c.args.at in
    let next = next_at (g.S.RecordSource.records c.args.store.now.source.now) c.args.store.now.root.now c.args.store.now.owner.now at in
    let span = span_of c.args.span in
    let T = at.name.now in
    let fields = fields_of at in
    let items = items_at at (step_of c.args.step.now) in
    let is : asked (asked_at c.type_name-field.result) ∷ [] ≡ items = (ap (λ x. x ∷ []) c.type_name-field.ensures.field ∙ sym (ap (λ (y : ReaderStep). collect_reading at.env.now.values T (step_of y)) c.in-Typename.is)) in
    subst (λ n. OnOk c.show_field.result (c.show_field.new.met ≡ n)) (field_trace span next T fields items (asked_at c.type_name-field.result) is c.args.met.now) c.show_field.ensures.met

pub show_step-returns-in-Typename-clause-looks : goal.show_step-returns-in-Typename-clause-looks
show_step-returns-in-Typename-clause-looks g t c =
    let at = c.args.at in
    let next = next_at (g.S.RecordSource.records c.args.store.now.source.now) c.args.store.now.root.now c.args.store.now.owner.now at in
    let span = span_of c.args.span in
    let T = at.name.now in
    let fields = fields_of at in
    let items = items_at at (step_of c.args.step.now) in
    let is : asked (asked_at c.type_name-field.result) ∷ [] ≡ items = (ap (λ x. x ∷ []) c.type_name-field.ensures.field ∙ sym (ap (λ (y : ReaderStep). collect_reading at.env.now.values T (step_of y)) c.in-Typename.is)) in
    subst (λ n. g.S.Count.Steps.looks c.show_field.new.steps ≤ g.S.Count.Steps.looks c.args.steps.now + n) (field_stood span next T fields items (asked_at c.type_name-field.result) is) c.show_field.ensures.looks

pub show_step-returns-in-Leaf-clause-shown : goal.show_step-returns-in-Leaf-clause-shown
show_step-returns-in-Leaf-clause-shown g t c =
    let at = c.args.at in
    let next = next_at (g.S.RecordSource.records c.args.store.now.source.now) c.args.store.now.root.now c.args.store.now.owner.now at in
    let span = span_of c.args.span in
    let T = at.name.now in
    let fields = fields_of at in
    let items = items_at at (step_of c.args.step.now) in
    let is : asked (asked_at c.leaf-field.result) ∷ [] ≡ items = (ap (λ x. x ∷ []) c.leaf-field.ensures.field ∙ sym (ap (λ (y : ReaderStep). collect_reading at.env.now.values T (step_of y)) c.in-Leaf.is)) in
    subst (λ ts. OnOk c.show_field-in-Leaf.result (c.show_field-in-Leaf.new.out.tokens ≡ c.args.out.now.tokens ++ ts)) (field_tokens span next T fields items (asked_at c.leaf-field.result) is) c.show_field-in-Leaf.ensures.shown

pub show_step-returns-in-Leaf-clause-met : goal.show_step-returns-in-Leaf-clause-met
show_step-returns-in-Leaf-clause-met g t c =
    let at = c.args.at in
    let next = next_at (g.S.RecordSource.records c.args.store.now.source.now) c.args.store.now.root.now c.args.store.now.owner.now at in
    let span = span_of c.args.span in
    let T = at.name.now in
    let fields = fields_of at in
    let items = items_at at (step_of c.args.step.now) in
    let is : asked (asked_at c.leaf-field.result) ∷ [] ≡ items = (ap (λ x. x ∷ []) c.leaf-field.ensures.field ∙ sym (ap (λ (y : ReaderStep). collect_reading at.env.now.values T (step_of y)) c.in-Leaf.is)) in
    subst (λ n. OnOk c.show_field-in-Leaf.result (c.show_field-in-Leaf.new.met ≡ n)) (field_trace span next T fields items (asked_at c.leaf-field.result) is c.args.met.now) c.show_field-in-Leaf.ensures.met

pub show_step-returns-in-Leaf-clause-looks : goal.show_step-returns-in-Leaf-clause-looks
show_step-returns-in-Leaf-clause-looks g t c =
    let at = c.args.at in
    let next = next_at (g.S.RecordSource.records c.args.store.now.source.now) c.args.store.now.root.now c.args.store.now.owner.now at in
    let span = span_of c.args.span in
    let T = at.name.now in
    let fields = fields_of at in
    let items = items_at at (step_of c.args.step.now) in
    let is : asked (asked_at c.leaf-field.result) ∷ [] ≡ items = (ap (λ x. x ∷ []) c.leaf-field.ensures.field ∙ sym (ap (λ (y : ReaderStep). collect_reading at.env.now.values T (step_of y)) c.in-Leaf.is)) in
    subst (λ n. g.S.Count.Steps.looks c.show_field-in-Leaf.new.steps ≤ g.S.Count.Steps.looks c.args.steps.now + n) (field_stood span next T fields items (asked_at c.leaf-field.result) is) c.show_field-in-Leaf.ensures.looks

pub show_step-returns-in-Object-clause-shown : goal.show_step-returns-in-Object-clause-shown
show_step-returns-in-Object-clause-shown g t c =
    let at = c.args.at in
    let next = next_at (g.S.RecordSource.records c.args.store.now.source.now) c.args.store.now.root.now c.args.store.now.owner.now at in
    let span = span_of c.args.span in
    let T = at.name.now in
    let fields = fields_of at in
    let items = items_at at (step_of c.args.step.now) in
    let is : asked _ ∷ [] ≡ items = (object_items at.env.now.values T _ _ c.in-Object.arguments _ _ _ _ _ c.in-Object.child.steps (part_at c.new.result) _ _ c.new.ensures c.connection_in.ensures c.form_of_objects.ensures ∙ sym (ap (λ (y : ReaderStep). collect_reading at.env.now.values T (step_of y)) c.in-Object.is)) in
    subst (λ ts. OnOk c.show_field-in-Object.result (c.show_field-in-Object.new.out.tokens ≡ c.args.out.now.tokens ++ ts)) (field_tokens span next T fields items _ is) c.show_field-in-Object.ensures.shown

pub show_step-returns-in-Object-clause-met : goal.show_step-returns-in-Object-clause-met
show_step-returns-in-Object-clause-met g t c =
    let at = c.args.at in
    let next = next_at (g.S.RecordSource.records c.args.store.now.source.now) c.args.store.now.root.now c.args.store.now.owner.now at in
    let span = span_of c.args.span in
    let T = at.name.now in
    let fields = fields_of at in
    let items = items_at at (step_of c.args.step.now) in
    let is : asked _ ∷ [] ≡ items = (object_items at.env.now.values T _ _ c.in-Object.arguments _ _ _ _ _ c.in-Object.child.steps (part_at c.new.result) _ _ c.new.ensures c.connection_in.ensures c.form_of_objects.ensures ∙ sym (ap (λ (y : ReaderStep). collect_reading at.env.now.values T (step_of y)) c.in-Object.is)) in
    subst (λ n. OnOk c.show_field-in-Object.result (c.show_field-in-Object.new.met ≡ n)) (field_trace span next T fields items _ is c.args.met.now) c.show_field-in-Object.ensures.met

pub show_step-returns-in-Object-clause-looks : goal.show_step-returns-in-Object-clause-looks
show_step-returns-in-Object-clause-looks g t c =
    let at = c.args.at in
    let next = next_at (g.S.RecordSource.records c.args.store.now.source.now) c.args.store.now.root.now c.args.store.now.owner.now at in
    let span = span_of c.args.span in
    let T = at.name.now in
    let fields = fields_of at in
    let items = items_at at (step_of c.args.step.now) in
    let is : asked _ ∷ [] ≡ items = (object_items at.env.now.values T _ _ c.in-Object.arguments _ _ _ _ _ c.in-Object.child.steps (part_at c.new.result) _ _ c.new.ensures c.connection_in.ensures c.form_of_objects.ensures ∙ sym (ap (λ (y : ReaderStep). collect_reading at.env.now.values T (step_of y)) c.in-Object.is)) in
    subst (λ n. g.S.Count.Steps.looks c.show_field-in-Object.new.steps ≤ g.S.Count.Steps.looks c.args.steps.now + n) (field_stood span next T fields items _ is) c.show_field-in-Object.ensures.looks

pub show_step-show_guarded-requires : goal.show_step-show_guarded-requires
show_step-show_guarded-requires g t c =
    let less : depth c.in-Guarded.child.steps < depth (step_of c.args.step.now) = guarded_deep _ _ _ c.in-Guarded.is in
    λ k h. (omega (arith, less, c.decreases), h)

pub show_guarded-show_fields-requires : goal.show_guarded-show_fields-requires
show_guarded-show_fields-requires g t c =
    λ k h. (omega (arith, c.decreases), h)

pub show_step-returns-in-Pointer-clause-shown : goal.show_step-returns-in-Pointer-clause-shown
show_step-returns-in-Pointer-clause-shown g t c =
    let at = c.args.at in
    let next = next_at (g.S.RecordSource.records c.args.store.now.source.now) c.args.store.now.root.now c.args.store.now.owner.now at in
    let span = span_of c.args.span in
    let T = at.name.now in
    let fields = fields_of at in
    let items = items_at at (step_of c.args.step.now) in
    let here : pointed _ ∷ [] ≡ items = sym (ap (λ (y : ReaderStep). collect_reading at.env.now.values T (step_of y)) c.in-Pointer.is ∙ collect_pointer at.env.now.values T c.in-Pointer.fragment c.in-Pointer.arguments c.in-Pointer.inline) in
    nothing_written c.args.out.now.tokens _ (ap (λ xs. pairs_tokens (fields_shown span next T fields xs)) here)

pub show_step-returns-in-Pointer-clause-met : goal.show_step-returns-in-Pointer-clause-met
show_step-returns-in-Pointer-clause-met g t c =
    let at = c.args.at in
    let next = next_at (g.S.RecordSource.records c.args.store.now.source.now) c.args.store.now.root.now c.args.store.now.owner.now at in
    let span = span_of c.args.span in
    let T = at.name.now in
    let fields = fields_of at in
    let items = items_at at (step_of c.args.step.now) in
    let here : pointed _ ∷ [] ≡ items = sym (ap (λ (y : ReaderStep). collect_reading at.env.now.values T (step_of y)) c.in-Pointer.is ∙ collect_pointer at.env.now.values T c.in-Pointer.fragment c.in-Pointer.arguments c.in-Pointer.inline) in
    nothing_met c.args.met.now _ (ap (fields_met span next T fields) here)

pub show_step-show_field-requires : goal.show_step-show_field-requires
show_step-show_field-requires g t c =
    let less = typename_deep c.args.step.now c.in-Typename.response c.type_name-field.result _ _ c.in-Typename.is c.type_name-field.ensures.field in
    λ k h. (omega (arith, less, c.decreases), (h.0, (h.1, c.type_name-field.ensures.kept)))

pub show_step-show_field-requires-in-Leaf : goal.show_step-show_field-requires-in-Leaf
show_step-show_field-requires-in-Leaf g t c =
    let less = leaf_deep c.args.step.now _ _ _ c.leaf-field.result _ _ c.in-Leaf.is c.leaf-field.ensures.field in
    λ k h. (omega (arith, less, c.decreases), (h.0, (h.1, c.leaf-field.ensures.kept)))

pub show_step-show_field-requires-in-Object : goal.show_step-show_field-requires-in-Object
show_step-show_field-requires-in-Object g t c =
    let less = object_deep c.args.step.now _ _ _ _ _ _ _ _ c.in-Object.child (part_at c.new.result) _ c.in-Object.is c.new.ensures in
    let own = only_key _ _ (c.requires.key ∙ ap (λ (x : ReaderStep). keys_of (step_of x)) c.in-Object.is) in
    λ k h. (omega (arith, less, c.decreases), (h.0, (h.1, λ key is. kept_key c.new.result.env.now.values c.in-Object.name c.in-Object.arguments key (sym is ∙ c.as_ref-in-Object.ensures.value ∙ own))))

-- ---- the pointers of a step

pub show_pointers_of_step-show_pointers-requires : goal.show_pointers_of_step-show_pointers-requires
show_pointers_of_step-show_pointers-requires g t c =
    let less : depth c.in-Guarded.child.steps < depth (step_of c.args.step.now) = guarded_deep _ _ _ c.in-Guarded.is in
    λ k h. (omega (arith, less, c.decreases), h)

pub show_pointers_of_step-show_pointer-requires : goal.show_pointers_of_step-show_pointer-requires
show_pointers_of_step-show_pointer-requires g t c =
    let less = pointer_deep c.args.step.now c.in-Pointer.fragment c.in-Pointer.arguments c.in-Pointer.inline (spread_at c.new-spread.result) c.args.at.env.now.values c.in-Pointer.is c.new-spread.ensures in
    λ k h. (omega (arith, less, c.decreases), h)

pub show_pointers_of_step-returns-in-Typename-clause-shown : goal.show_pointers_of_step-returns-in-Typename-clause-shown
show_pointers_of_step-returns-in-Typename-clause-shown g t c =
    let at = c.args.at in
    let next = next_at (g.S.RecordSource.records c.args.store.now.source.now) c.args.store.now.root.now c.args.store.now.owner.now at in
    let T = at.name.now in
    let id = at.id.now in
    let here = sym (ap (λ (y : ReaderStep). items_at at (step_of y)) c.in-Typename.is) in
    nothing_written c.args.out.now.tokens _ (ap (λ xs. pairs_tokens (pointers_shown next T id xs)) here)

pub show_pointers_of_step-returns-in-Typename-clause-met : goal.show_pointers_of_step-returns-in-Typename-clause-met
show_pointers_of_step-returns-in-Typename-clause-met g t c =
    let at = c.args.at in
    let next = next_at (g.S.RecordSource.records c.args.store.now.source.now) c.args.store.now.root.now c.args.store.now.owner.now at in
    let T = at.name.now in
    let id = at.id.now in
    let here = sym (ap (λ (y : ReaderStep). items_at at (step_of y)) c.in-Typename.is) in
    nothing_met c.args.met.now _ (ap (pointers_met next T id) here)

pub show_pointers_of_step-returns-in-Leaf-clause-shown : goal.show_pointers_of_step-returns-in-Leaf-clause-shown
show_pointers_of_step-returns-in-Leaf-clause-shown g t c =
    let at = c.args.at in
    let next = next_at (g.S.RecordSource.records c.args.store.now.source.now) c.args.store.now.root.now c.args.store.now.owner.now at in
    let T = at.name.now in
    let id = at.id.now in
    let here = sym (ap (λ (y : ReaderStep). items_at at (step_of y)) c.in-Leaf.is) in
    nothing_written c.args.out.now.tokens _ (ap (λ xs. pairs_tokens (pointers_shown next T id xs)) here)

pub show_pointers_of_step-returns-in-Leaf-clause-met : goal.show_pointers_of_step-returns-in-Leaf-clause-met
show_pointers_of_step-returns-in-Leaf-clause-met g t c =
    let at = c.args.at in
    let next = next_at (g.S.RecordSource.records c.args.store.now.source.now) c.args.store.now.root.now c.args.store.now.owner.now at in
    let T = at.name.now in
    let id = at.id.now in
    let here = sym (ap (λ (y : ReaderStep). items_at at (step_of y)) c.in-Leaf.is) in
    nothing_met c.args.met.now _ (ap (pointers_met next T id) here)

pub show_pointers_of_step-returns-in-Object-clause-shown : goal.show_pointers_of_step-returns-in-Object-clause-shown
show_pointers_of_step-returns-in-Object-clause-shown g t c =
    let at = c.args.at in
    let next = next_at (g.S.RecordSource.records c.args.store.now.source.now) c.args.store.now.root.now c.args.store.now.owner.now at in
    let T = at.name.now in
    let id = at.id.now in
    let here = sym (ap (λ (y : ReaderStep). items_at at (step_of y)) c.in-Object.is) in
    nothing_written c.args.out.now.tokens _ (ap (λ xs. pairs_tokens (pointers_shown next T id xs)) here)

pub show_pointers_of_step-returns-in-Object-clause-met : goal.show_pointers_of_step-returns-in-Object-clause-met
show_pointers_of_step-returns-in-Object-clause-met g t c =
    let at = c.args.at in
    let next = next_at (g.S.RecordSource.records c.args.store.now.source.now) c.args.store.now.root.now c.args.store.now.owner.now at in
    let T = at.name.now in
    let id = at.id.now in
    let here = sym (ap (λ (y : ReaderStep). items_at at (step_of y)) c.in-Object.is) in
    nothing_met c.args.met.now _ (ap (pointers_met next T id) here)

pub show_pointers_of_step-returns-in-Pointer-clause-shown : goal.show_pointers_of_step-returns-in-Pointer-clause-shown
show_pointers_of_step-returns-in-Pointer-clause-shown g t c =
    let at = c.args.at in
    let next = next_at (g.S.RecordSource.records c.args.store.now.source.now) c.args.store.now.root.now c.args.store.now.owner.now at in
    let T = at.name.now in
    let id = at.id.now in
    let items = items_at at (step_of c.args.step.now) in
    let p = spread_at c.new-spread.result in
    let is : pointed p ∷ [] ≡ items = ap (λ q. pointed q ∷ []) c.new-spread.ensures ∙ sym (ap (λ (y : ReaderStep). items_at at (step_of y)) c.in-Pointer.is ∙ collect_pointer at.env.now.values T c.in-Pointer.fragment c.in-Pointer.arguments c.in-Pointer.inline) in
    subst (λ ts. OnOk c.show_pointer.result (c.show_pointer.new.out.tokens ≡ c.args.out.now.tokens ++ ts)) (pointer_tokens next T id items p is) c.show_pointer.ensures.shown

pub show_pointers_of_step-returns-in-Pointer-clause-met : goal.show_pointers_of_step-returns-in-Pointer-clause-met
show_pointers_of_step-returns-in-Pointer-clause-met g t c =
    let at = c.args.at in
    let next = next_at (g.S.RecordSource.records c.args.store.now.source.now) c.args.store.now.root.now c.args.store.now.owner.now at in
    let T = at.name.now in
    let id = at.id.now in
    let items = items_at at (step_of c.args.step.now) in
    let p = spread_at c.new-spread.result in
    let is : pointed p ∷ [] ≡ items = ap (λ q. pointed q ∷ []) c.new-spread.ensures ∙ sym (ap (λ (y : ReaderStep). items_at at (step_of y)) c.in-Pointer.is ∙ collect_pointer at.env.now.values T c.in-Pointer.fragment c.in-Pointer.arguments c.in-Pointer.inline) in
    subst (λ n. OnOk c.show_pointer.result (c.show_pointer.new.met ≡ n)) (pointer_trace next T id items p is c.args.met.now) c.show_pointer.ensures.met

pub show_pointers_of_step-returns-in-Pointer-clause-looks : goal.show_pointers_of_step-returns-in-Pointer-clause-looks
show_pointers_of_step-returns-in-Pointer-clause-looks g t c =
    let at = c.args.at in
    let next = next_at (g.S.RecordSource.records c.args.store.now.source.now) c.args.store.now.root.now c.args.store.now.owner.now at in
    let T = at.name.now in
    let id = at.id.now in
    let items = items_at at (step_of c.args.step.now) in
    let p = spread_at c.new-spread.result in
    let is : pointed p ∷ [] ≡ items = ap (λ q. pointed q ∷ []) c.new-spread.ensures ∙ sym (ap (λ (y : ReaderStep). items_at at (step_of y)) c.in-Pointer.is ∙ collect_pointer at.env.now.values T c.in-Pointer.fragment c.in-Pointer.arguments c.in-Pointer.inline) in
    subst (λ n. g.S.Count.Steps.looks c.show_pointer.new.steps ≤ g.S.Count.Steps.looks c.args.steps.now + n) (pointer_stood next T id items p is) c.show_pointer.ensures.looks

-- ---- a record

pub show_record-returns-in_default-clause-shown : goal.show_record-returns-in_default-clause-shown
show_record-returns-in_default-clause-shown g t c =
    let m = g.S.RecordSource.records c.args.store.now.source.now in
    let part = part_at c.args.part in
    let none : c.args.levels ≡ 0 = grind arith in
    let is = walks_nothing m c.args.store.now.root.now c.args.store.now.owner.now part.environment c.args.types.now part.steps c.args.id.now c.args.levels none in
    subst (λ (r : Found). OnOk c.lost.result (c.lost.new.out.tokens ≡ c.args.out.now.tokens ++ led c.args.lead r.0)) (sym is) c.lost.ensures.tokens

pub show_record-returns-in_default-clause-met : goal.show_record-returns-in_default-clause-met
show_record-returns-in_default-clause-met g t c =
    let m = g.S.RecordSource.records c.args.store.now.source.now in
    let root = c.args.store.now.root.now in
    let owner = c.args.store.now.owner.now in
    let part = part_at c.args.part in
    let none : c.args.levels ≡ 0 = grind arith in
    let is = walks_nothing m root owner part.environment c.args.types.now part.steps c.args.id.now c.args.levels none in
    let whole = walks m root owner part.environment c.args.levels c.args.types.now part.steps c.args.id.now in
    let met : c.lost.new.met ≡ stood_onto c.args.met.now whole.1 = stood_nothing c.args.id.now whole c.args.met.now c.stand.new.self c.lost.new.met is c.in_ok-stand.ensures c.lost.ensures.met in
    on_ok_weaker c.lost.result (λ _. met) c.lost.ensures.tokens

pub show_record-returns-in-Some-Alive-clause-shown : goal.show_record-returns-in-Some-Alive-clause-shown
show_record-returns-in-Some-Alive-clause-shown g t c =
    let m = g.S.RecordSource.records c.args.store.now.source.now in
    let root = c.args.store.now.root.now in
    let owner = c.args.store.now.owner.now in
    let part = part_at c.args.part in
    let row = c.get-row.result.now in
    let there : slots m c.args.id.now ≡ Some (Alive row) = search rules in
    let less : c.args.levels ≡ suc c.in-Some.levels = grind arith in
    let is = walks_live m root owner part.environment c.args.types.now part.steps c.args.id.now c.args.levels c.in-Some.levels row c.type_of.result.now less there c.type_of.ensures in
    subst (λ (r : Found). OnOk c.show_live.result (c.show_live.new.out.tokens ≡ c.args.out.now.tokens ++ led c.args.lead r.0)) (sym is) c.show_live.ensures.shown

pub show_record-returns-in-Some-Alive-clause-met : goal.show_record-returns-in-Some-Alive-clause-met
show_record-returns-in-Some-Alive-clause-met g t c =
    let m = g.S.RecordSource.records c.args.store.now.source.now in
    let root = c.args.store.now.root.now in
    let owner = c.args.store.now.owner.now in
    let part = part_at c.args.part in
    let row = c.get-row.result.now in
    let there : slots m c.args.id.now ≡ Some (Alive row) = search rules in
    let less : c.args.levels ≡ suc c.in-Some.levels = grind arith in
    let is = walks_live m root owner part.environment c.args.types.now part.steps c.args.id.now c.args.levels c.in-Some.levels row c.type_of.result.now less there c.type_of.ensures in
    let whole = walks m root owner part.environment c.args.levels c.args.types.now part.steps c.args.id.now in
    let under = if_possible (has_text c.args.types.now c.type_of.result.now) (object_in_order owner (below m root owner c.in-Some.levels) c.type_of.result.now part.environment part.steps c.args.id.now (field_of (Some (Alive row)))) in
    let after : c.show_live.new.met ≡ stood_onto c.stand.new.self under.1 → c.show_live.new.met ≡ stood_onto c.args.met.now whole.1 = λ e. stood_live c.args.id.now whole under c.args.met.now c.stand.new.self c.show_live.new.met is c.in_ok-stand.ensures e in
    on_ok_weaker c.show_live.result after c.show_live.ensures.met

pub show_record-returns-in-Some-Alive-clause-looks : goal.show_record-returns-in-Some-Alive-clause-looks
show_record-returns-in-Some-Alive-clause-looks g t c =
    let m = g.S.RecordSource.records c.args.store.now.source.now in
    let root = c.args.store.now.root.now in
    let owner = c.args.store.now.owner.now in
    let part = part_at c.args.part in
    let row = c.get-row.result.now in
    let there : slots m c.args.id.now ≡ Some (Alive row) = search rules in
    let less : c.args.levels ≡ suc c.in-Some.levels = grind arith in
    let is = walks_live m root owner part.environment c.args.types.now part.steps c.args.id.now c.args.levels c.in-Some.levels row c.type_of.result.now less there c.type_of.ensures in
    live_looks c.args.id.now _ _ _ _ _ is c.get.ensures.looks c.show_live.ensures.looks

-- ---- a live record

pub show_live-returns-in-Some-clause-shown : goal.show_live-returns-in-Some-clause-shown
show_live-returns-in-Some-clause-shown g t c =
    let m = g.S.RecordSource.records c.args.store.now.source.now in
    let root = c.args.store.now.root.now in
    let owner = c.args.store.now.owner.now in
    let at = c.args.at in
    let found : c.contains.result ≡ true = search rules in
    let steps : (part_at c.args.part).steps ≡ c.in-Some.plan.now = ap (λ o. steps_or_done (option_copied o)) c.in-Some.is in
    let plan = object_shown_at m root owner at c.in-Some.plan.now in
    let all = object_shown_at m root owner at (part_at c.args.part).steps in
    let is = possible_shown (has_text c.args.types.now at.name.now) all plan (sym c.contains.ensures ∙ found) (ap (object_shown_at m root owner at) (sym steps)) in
    let whole = if_possible (has_text c.args.types.now at.name.now) all in
    let after : c.show_object.new.out.tokens ≡ c.begin.new.out.tokens ++ tree_tokens (shown_object plan.0) → c.show_object.new.out.tokens ≡ c.args.out.now.tokens ++ led c.args.lead whole.0 = λ e. then_two c.args.out.now.tokens c.begin.new.out.tokens c.show_object.new.out.tokens (lead_of c.args.lead) (tree_tokens (shown_object plan.0)) (led c.args.lead whole.0) c.in_ok-begin.ensures.tokens e (ap (λ (r : Found). led c.args.lead r.0) is) in
    on_ok_weaker c.show_object.result after c.show_object.ensures.shown

pub show_live-returns-in-Some-clause-met : goal.show_live-returns-in-Some-clause-met
show_live-returns-in-Some-clause-met g t c =
    let m = g.S.RecordSource.records c.args.store.now.source.now in
    let root = c.args.store.now.root.now in
    let owner = c.args.store.now.owner.now in
    let at = c.args.at in
    let found : c.contains.result ≡ true = search rules in
    let steps : (part_at c.args.part).steps ≡ c.in-Some.plan.now = ap (λ o. steps_or_done (option_copied o)) c.in-Some.is in
    let plan = object_shown_at m root owner at c.in-Some.plan.now in
    let all = object_shown_at m root owner at (part_at c.args.part).steps in
    let is = possible_shown (has_text c.args.types.now at.name.now) all plan (sym c.contains.ensures ∙ found) (ap (object_shown_at m root owner at) (sym steps)) in
    subst (λ (r : Found). OnOk c.show_object.result (c.show_object.new.met ≡ stood_onto c.args.met.now r.1)) is c.show_object.ensures.met

pub show_live-returns-in-Some-clause-looks : goal.show_live-returns-in-Some-clause-looks
show_live-returns-in-Some-clause-looks g t c =
    let m = g.S.RecordSource.records c.args.store.now.source.now in
    let root = c.args.store.now.root.now in
    let owner = c.args.store.now.owner.now in
    let at = c.args.at in
    let found : c.contains.result ≡ true = search rules in
    let steps : (part_at c.args.part).steps ≡ c.in-Some.plan.now = ap (λ o. steps_or_done (option_copied o)) c.in-Some.is in
    let plan = object_shown_at m root owner at c.in-Some.plan.now in
    let all = object_shown_at m root owner at (part_at c.args.part).steps in
    let is = possible_shown (has_text c.args.types.now at.name.now) all plan (sym c.contains.ensures ∙ found) (ap (object_shown_at m root owner at) (sym steps)) in
    subst (λ (r : Found). g.S.Count.Steps.looks c.show_object.new.steps ≤ g.S.Count.Steps.looks c.args.steps.now + length r.1.seen) is c.show_object.ensures.looks

pub show_live-show_object-requires : goal.show_live-show_object-requires
show_live-show_object-requires g t c =
    let steps : depth (part_at c.args.part).steps ≡ depth c.in-Some.plan.now = ap (λ o. depth (steps_or_done (option_copied o))) c.in-Some.is in
    λ k h. (omega (arith, steps, c.decreases), h)

-- ---- an object

pub show_object-returns-clause-shown : goal.show_object-returns-clause-shown
show_object-returns-clause-shown g t c =
    let m = g.S.RecordSource.records c.args.store.now.source.now in
    let root = c.args.store.now.root.now in
    let owner = c.args.store.now.owner.now in
    object_written c.args.out.now.tokens c.begin_object.new.self.tokens c.show_members.new.out.tokens c.end_object.new.self.tokens (object_shown_at m root owner c.args.at c.args.plan.now).0 c.in_ok-begin_object.ensures.ok c.in_ok-show_members.ensures.shown c.in_ok-end_object.ensures.ok

-- ---- members

pub show_members-returns-clause-shown : goal.show_members-returns-clause-shown
show_members-returns-clause-shown g t c =
    let m = g.S.RecordSource.records c.args.store.now.source.now in
    let root = c.args.store.now.root.now in
    let owner = c.args.store.now.owner.now in
    let at = c.args.at in
    let plan = c.args.plan.now in
    let is = object_around owner (next_at m root owner at) at.name.now at.env.now.values plan at.id.now (fields_of at) (sym c.has_no_pointer.ensures ∙ search rules) in
    subst (λ (r : Shown × Trace). OnOk c.show_around.result (c.show_around.new.out.tokens ≡ c.args.out.now.tokens ++ pairs_tokens r.0)) is c.show_around.ensures.shown

pub show_members-returns-clause-met : goal.show_members-returns-clause-met
show_members-returns-clause-met g t c =
    let m = g.S.RecordSource.records c.args.store.now.source.now in
    let root = c.args.store.now.root.now in
    let owner = c.args.store.now.owner.now in
    let at = c.args.at in
    let plan = c.args.plan.now in
    let is = object_around owner (next_at m root owner at) at.name.now at.env.now.values plan at.id.now (fields_of at) (sym c.has_no_pointer.ensures ∙ search rules) in
    subst (λ (r : Shown × Trace). OnOk c.show_around.result (c.show_around.new.met ≡ stood_onto c.args.met.now r.1)) is c.show_around.ensures.met

pub show_members-returns-clause-looks : goal.show_members-returns-clause-looks
show_members-returns-clause-looks g t c =
    let m = g.S.RecordSource.records c.args.store.now.source.now in
    let root = c.args.store.now.root.now in
    let owner = c.args.store.now.owner.now in
    let at = c.args.at in
    let plan = c.args.plan.now in
    let is = object_around owner (next_at m root owner at) at.name.now at.env.now.values plan at.id.now (fields_of at) (sym c.has_no_pointer.ensures ∙ search rules) in
    subst (λ (r : Shown × Trace). g.S.Count.Steps.looks c.show_around.new.steps ≤ g.S.Count.Steps.looks c.args.steps.now + length r.1.seen) is c.show_around.ensures.looks

-- ---- fields around pointers

pub show_around-returns-clause-shown : goal.show_around-returns-clause-shown
show_around-returns-clause-shown g t c =
    let m = g.S.RecordSource.records c.args.store.now.source.now in
    let root = c.args.store.now.root.now in
    let owner = c.args.store.now.owner.now in
    let at = c.args.at in
    let plan = c.args.plan.now in
    let one = members_at m root owner at before plan in
    let two = mark_members owner at.id.now (pointers_at m root owner at plan) in
    let three = members_at m root owner at behind plan in
    let after : c.show_fields-2.new.out.tokens ≡ c.show_marks.new.out.tokens ++ pairs_tokens three → c.show_fields-2.new.out.tokens ≡ c.args.out.now.tokens ++ pairs_tokens (one ++ (two ++ three)) = three_written c.args.out.now.tokens c.show_fields.new.out.tokens c.show_marks.new.out.tokens c.show_fields-2.new.out.tokens one two three c.in_ok-show_fields.ensures.shown c.in_ok-show_marks.ensures.shown in
    on_ok_weaker c.show_fields-2.result after c.show_fields-2.ensures.shown

pub show_around-returns-clause-met : goal.show_around-returns-clause-met
show_around-returns-clause-met g t c =
    let m = g.S.RecordSource.records c.args.store.now.source.now in
    let root = c.args.store.now.root.now in
    let owner = c.args.store.now.owner.now in
    let at = c.args.at in
    let plan = c.args.plan.now in
    let s = members_met_at m root owner at before plan in
    let t = pointers_met_at m root owner at plan in
    let u = members_met_at m root owner at behind plan in
    let after : c.show_fields-2.new.met ≡ stood_onto c.show_marks.new.met u → c.show_fields-2.new.met ≡ stood_onto c.args.met.now (join_traces s (join_traces t u)) = three_met c.args.met.now c.show_fields.new.met c.show_marks.new.met c.show_fields-2.new.met s t u c.in_ok-show_fields.ensures.met c.in_ok-show_marks.ensures.met in
    on_ok_weaker c.show_fields-2.result after c.show_fields-2.ensures.met

pub show_around-returns-clause-looks : goal.show_around-returns-clause-looks
show_around-returns-clause-looks g t c =
    let m = g.S.RecordSource.records c.args.store.now.source.now in
    let root = c.args.store.now.root.now in
    let owner = c.args.store.now.owner.now in
    let at = c.args.at in
    let plan = c.args.plan.now in
    let s = members_met_at m root owner at before plan in
    let t = pointers_met_at m root owner at plan in
    let u = members_met_at m root owner at behind plan in
    three_looks _ _ _ _ s t u c.show_fields.ensures.looks c.show_marks.ensures.looks c.show_fields-2.ensures.looks

pub show_around-returns-in_err-show_fields-clause-looks : goal.show_around-returns-in_err-show_fields-clause-looks
show_around-returns-in_err-show_fields-clause-looks g t c =
    let m = g.S.RecordSource.records c.args.store.now.source.now in
    let root = c.args.store.now.root.now in
    let owner = c.args.store.now.owner.now in
    let at = c.args.at in
    let plan = c.args.plan.now in
    let s = members_met_at m root owner at before plan in
    let t = pointers_met_at m root owner at plan in
    let u = members_met_at m root owner at behind plan in
    one_of_three _ _ s t u c.show_fields.ensures.looks

pub show_around-returns-in_err-show_marks-clause-looks : goal.show_around-returns-in_err-show_marks-clause-looks
show_around-returns-in_err-show_marks-clause-looks g t c =
    let m = g.S.RecordSource.records c.args.store.now.source.now in
    let root = c.args.store.now.root.now in
    let owner = c.args.store.now.owner.now in
    let at = c.args.at in
    let plan = c.args.plan.now in
    let s = members_met_at m root owner at before plan in
    let t = pointers_met_at m root owner at plan in
    let u = members_met_at m root owner at behind plan in
    two_of_three _ _ _ s t u c.show_fields.ensures.looks c.show_marks.ensures.looks

-- ---- what a record with pointers tells beside its fields

pub show_marks-returns-then-not-some-clause-shown : goal.show_marks-returns-then-not-some-clause-shown
show_marks-returns-then-not-some-clause-shown g t c =
    let owner = c.args.store.now.owner.now in
    let at = c.args.at in
    let next = next_at (g.S.RecordSource.records c.args.store.now.source.now) c.args.store.now.root.now owner at in
    let T = at.name.now in
    let id = at.id.now in
    let items = items_at at c.args.plan.now in
    let some : has_pointed items ≡ c.in_ok-some.some = sym c.in_ok-some.ensures in
    let none : has_pointed items ≡ false = some ∙ search rules in
    nothing_written c.args.out.now.tokens _ (ap (λ ps. pairs_tokens (mark_members owner id ps)) (none_shown next T id items none))

pub show_marks-returns-then-not-some-clause-met : goal.show_marks-returns-then-not-some-clause-met
show_marks-returns-then-not-some-clause-met g t c =
    let at = c.args.at in
    let next = next_at (g.S.RecordSource.records c.args.store.now.source.now) c.args.store.now.root.now c.args.store.now.owner.now at in
    let T = at.name.now in
    let id = at.id.now in
    let items = items_at at c.args.plan.now in
    let some : has_pointed items ≡ c.in_ok-some.some = sym c.in_ok-some.ensures in
    let none : has_pointed items ≡ false = some ∙ search rules in
    nothing_met c.args.met.now _ (none_met next T id items none)

pub show_marks-returns-clause-shown : goal.show_marks-returns-clause-shown
show_marks-returns-clause-shown g t c =
    let owner = c.args.store.now.owner.now in
    let at = c.args.at in
    let next = next_at (g.S.RecordSource.records c.args.store.now.source.now) c.args.store.now.root.now owner at in
    let T = at.name.now in
    let id = at.id.now in
    let items = items_at at c.args.plan.now in
    let some : has_pointed items ≡ c.in_ok-some.some = sym c.in_ok-some.ensures in
    let there : has_pointed items ≡ true = some ∙ search rules in
    let ps = pointers_shown next T id items in
    let after : c.show_identity.new.out.tokens ≡ c.end_object.new.self.tokens ++ identity owner id → c.show_identity.new.out.tokens ≡ c.args.out.now.tokens ++ pairs_tokens (mark_members owner id ps) = marks_of owner id c.args.out.now.tokens c.key.new.self.tokens c.begin_object.new.self.tokens c.show_pointers.new.out.tokens c.end_object.new.self.tokens c.show_identity.new.out.tokens next T items there c.in_ok-key.ensures.ok c.in_ok-begin_object.ensures.ok c.in_ok-show_pointers.ensures.shown c.in_ok-end_object.ensures.ok in
    on_ok_weaker c.show_identity.result after c.show_identity.ensures.tokens

-- ---- a field

pub show_field-returns-clause-shown : goal.show_field-returns-clause-shown
show_field-returns-clause-shown g t c =
    let at = c.args.at in
    let next = next_at (g.S.RecordSource.records c.args.store.now.source.now) c.args.store.now.root.now c.args.store.now.owner.now at in
    let T = at.name.now in
    let fields = fields_of at in
    let field = c.args.field in
    let asks = asked_at field in
    let taken : c.takes.result ≡ true = search rules in
    let is : true ≡ is_taken (span_of c.args.span) field.response.now = sym taken ∙ c.takes.ensures ∙ ap (is_taken (span_of c.args.span)) c.as_str.ensures in
    let value : option_copied c.near-value.result ≡ fields (read_key (ask_at field)) = c.near-value.ensures ∙ ap fields (c.as_str-3.ensures ∙ c.in_ok-key.ensures) in
    let found : value_at next T (part_at field.part ∷ []) (form_at field.form) (option_copied c.near-value.result) ≡ group_at next T fields (alone asks) = ap (value_at next T (part_at field.part ∷ []) (form_at field.form)) value in
    let tokens : led (Member c.as_str-2.result) (value_at next T (part_at field.part ∷ []) (form_at field.form) (option_copied c.near-value.result)).0 ≡ pairs_tokens (field_shown (is_taken (span_of c.args.span) field.response.now) next T fields asks) =
    ap (λ (r : Found). led (Member c.as_str-2.result) r.0) found ∙ led_member (Member c.as_str-2.result) field.response.now (group_at next T fields (alone asks)).0 (ap (λ k. key k ∷ []) c.as_str-2.ensures) ∙ ap (λ b. pairs_tokens (field_shown b next T fields asks)) is in
    subst (λ ts. OnOk c.show_value.result (c.show_value.new.out.tokens ≡ c.args.out.now.tokens ++ ts)) tokens c.show_value.ensures.shown

pub show_field-returns-clause-met : goal.show_field-returns-clause-met
show_field-returns-clause-met g t c =
    let at = c.args.at in
    let next = next_at (g.S.RecordSource.records c.args.store.now.source.now) c.args.store.now.root.now c.args.store.now.owner.now at in
    let T = at.name.now in
    let fields = fields_of at in
    let field = c.args.field in
    let asks = asked_at field in
    let taken : c.takes.result ≡ true = search rules in
    let is : true ≡ is_taken (span_of c.args.span) field.response.now = sym taken ∙ c.takes.ensures ∙ ap (is_taken (span_of c.args.span)) c.as_str.ensures in
    let value : option_copied c.near-value.result ≡ fields (read_key (ask_at field)) = c.near-value.ensures ∙ ap fields (c.as_str-3.ensures ∙ c.in_ok-key.ensures) in
    let found : value_at next T (part_at field.part ∷ []) (form_at field.form) (option_copied c.near-value.result) ≡ group_at next T fields (alone asks) = ap (value_at next T (part_at field.part ∷ []) (form_at field.form)) value in
    subst (λ n. OnOk c.show_value.result (c.show_value.new.met ≡ n)) (ap (λ (r : Found). stood_onto c.args.met.now r.1) found ∙ ap (λ b. stood_onto c.args.met.now (field_met b next T fields asks)) is) c.show_value.ensures.met

pub show_field-returns-clause-looks : goal.show_field-returns-clause-looks
show_field-returns-clause-looks g t c =
    let at = c.args.at in
    let next = next_at (g.S.RecordSource.records c.args.store.now.source.now) c.args.store.now.root.now c.args.store.now.owner.now at in
    let T = at.name.now in
    let fields = fields_of at in
    let field = c.args.field in
    let asks = asked_at field in
    let taken : c.takes.result ≡ true = search rules in
    let is : true ≡ is_taken (span_of c.args.span) field.response.now = sym taken ∙ c.takes.ensures ∙ ap (is_taken (span_of c.args.span)) c.as_str.ensures in
    let value : option_copied c.near-value.result ≡ fields (read_key (ask_at field)) = c.near-value.ensures ∙ ap fields (c.as_str-3.ensures ∙ c.in_ok-key.ensures) in
    let found : value_at next T (part_at field.part ∷ []) (form_at field.form) (option_copied c.near-value.result) ≡ group_at next T fields (alone asks) = ap (value_at next T (part_at field.part ∷ []) (form_at field.form)) value in
    subst (λ n. g.S.Count.Steps.looks c.show_value.new.steps ≤ g.S.Count.Steps.looks c.args.steps.now + n) (ap (λ (r : Found). length r.1.seen) found ∙ ap (λ b. length (field_met b next T fields asks).seen) is) c.show_value.ensures.looks

-- ---- a list

pub show_many-returns-in_ok-end_array-in-Some-Links-clause-shown : goal.show_many-returns-in_ok-end_array-in-Some-Links-clause-shown
show_many-returns-in_ok-end_array-in-Some-Links-clause-shown g t c =
    let m = g.S.RecordSource.records c.args.store.now.source.now in
    let root = c.args.store.now.root.now in
    let owner = c.args.store.now.owner.now in
    let elements = elements_at (below m root owner c.args.levels) c.args.types.now (part_at c.args.part ∷ []) c.as_slice.result.now in
    then_two c.args.out.now.tokens c.begin.new.out.tokens c.end_array.new.self.tokens (lead_of c.args.lead) (tree_tokens (list (trees_of elements.0))) _ c.in_ok-begin-in-Some-Links.ensures.tokens
    (list_written c.begin.new.out.tokens c.begin_array.new.self.tokens c.show_elements.new.out.tokens c.end_array.new.self.tokens elements.0 c.in_ok-begin_array-in-Some-Links.ensures.ok c.in_ok-show_elements-in-Some-Links.ensures.shown c.in_ok-end_array-in-Some-Links.ensures.ok)
    (search rules)

-- ---- a pointer

pub show_pointer-returns-clause-shown : goal.show_pointer-returns-clause-shown
show_pointer-returns-clause-shown g t c =
    let at = c.args.at in
    let next = next_at (g.S.RecordSource.records c.args.store.now.source.now) c.args.store.now.root.now c.args.store.now.owner.now at in
    let p = spread_at c.args.spread in
    let inline : true ≡ c.args.spread.inline = search rules in
    let types : c.in_ok-itself.itself ≡ at.name.now ∷ [] = c.in_ok-itself.ensures in
    let found = next c.in_ok-itself.itself (part_at c.args.spread.body ∷ []) at.id.now in
    let told : tree_tokens (or_null found.0) ≡ tree_tokens (pointer_at next at.name.now at.id.now p c.args.spread.inline).0 = ap (λ ts. tree_tokens (or_null (next ts (p.body ∷ []) at.id.now).0)) types ∙ ap (λ b. tree_tokens (pointer_at next at.name.now at.id.now p b).0) inline in
    let after : c.show_record.new.out.tokens ≡ c.key.new.self.tokens ++ led Alone found.0 → c.show_record.new.out.tokens ≡ c.args.out.now.tokens ++ pairs_tokens ((p.fragment, (pointer_at next at.name.now at.id.now p c.args.spread.inline).0) ∷ []) = λ e. member_written c.args.out.now.tokens c.key.new.self.tokens c.show_record.new.out.tokens p.fragment (pointer_at next at.name.now at.id.now p c.args.spread.inline).0 (c.in_ok-key.ensures.ok ∙ ap (λ k. c.args.out.now.tokens ++ key k ∷ []) c.as_str.ensures) (e ∙ ap (λ ts. c.key.new.self.tokens ++ ts) (led_alone found.0 ∙ told)) in
    on_ok_weaker c.show_record.result after c.show_record.ensures.shown

pub show_pointer-returns-clause-met : goal.show_pointer-returns-clause-met
show_pointer-returns-clause-met g t c =
    let at = c.args.at in
    let next = next_at (g.S.RecordSource.records c.args.store.now.source.now) c.args.store.now.root.now c.args.store.now.owner.now at in
    let p = spread_at c.args.spread in
    let inline : true ≡ c.args.spread.inline = search rules in
    let types : c.in_ok-itself.itself ≡ at.name.now ∷ [] = c.in_ok-itself.ensures in
    subst (λ n. OnOk c.show_record.result (c.show_record.new.met ≡ n)) (ap (λ ts. stood_onto c.args.met.now (next ts (p.body ∷ []) at.id.now).1) types ∙ ap (λ b. stood_onto c.args.met.now (pointer_at next at.name.now at.id.now p b).1) inline) c.show_record.ensures.met

pub show_pointer-returns-clause-looks : goal.show_pointer-returns-clause-looks
show_pointer-returns-clause-looks g t c =
    let at = c.args.at in
    let next = next_at (g.S.RecordSource.records c.args.store.now.source.now) c.args.store.now.root.now c.args.store.now.owner.now at in
    let p = spread_at c.args.spread in
    let inline : true ≡ c.args.spread.inline = search rules in
    let types : c.in_ok-itself.itself ≡ at.name.now ∷ [] = c.in_ok-itself.ensures in
    subst (λ n. g.S.Count.Steps.looks c.show_record.new.steps ≤ g.S.Count.Steps.looks c.args.steps.now + n) (ap (λ ts. length (next ts (p.body ∷ []) at.id.now).1.seen) types ∙ ap (λ b. length (pointer_at next at.name.now at.id.now p b).1.seen) inline) c.show_record.ensures.looks
