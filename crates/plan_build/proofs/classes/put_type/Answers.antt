-- The group is there, or it is a new one.
use Rattle.std.proofs.Common.{◌≡◌, ◌<◌, length, List, [], ◌∷◌, ◌++◌, map, Some, None, ap, sym, ◌∙◌, arith}
use Rattle.std.proofs.lemmas.List.{map-append}
use Rattle.plan_ir.proofs.schema_tables_laws.Finding.{within}
use Rattle.plan_ir.specs.schema_tables.Places.{first_at}
use Rattle.plan_ir.specs.schema_tables.Types.{Text}
use Rattle.plan_build.specs.Classes.{Target, target_on, with_object, with_type}
use Rattle.plan_build.specs.ClassView.{group_view, target_view}
use Rattle.plan_build.specs.declared.classes.Group.{Group}
use Rattle.plan_build.proofs.CodeSteps.{leads_to, with_here, with_none}
use Rattle.plan_build.proofs.classes.put_type.Goals as goal

pub index_mut-requires : goal.index_mut-requires
index_mut-requires c =
    let there : first_at (leads_to c.args.schema.now (target_view c.target_on-target.result)) c.args.groups.now.items ≡ Some c.in-Some.at =
    sym (ap (λ (gs : List Group). first_at (leads_to c.args.schema.now (target_view c.target_on-target.result)) gs) c.deref.ensures.value) ∙ sym c.find_group.ensures ∙ c.in-Some.is in
    let low : c.in-Some.at < length c.args.groups.now.items = within (leads_to c.args.schema.now (target_view c.target_on-target.result)) c.args.groups.now.items c.in-Some.at there in
    omega (arith, low, c.args.groups.now.ok.0)

pub returns-in_ok-put_object-in-Some : goal.returns-in_ok-put_object-in-Some
returns-in_ok-put_object-in-Some c =
    let there : first_at (leads_to c.args.schema.now (target_view c.target_on-target.result)) c.args.groups.now.items ≡ Some c.in-Some.at =
    sym (ap (λ (gs : List Group). first_at (leads_to c.args.schema.now (target_view c.target_on-target.result)) gs) c.deref.ensures.value) ∙ sym c.find_group.ensures ∙ c.in-Some.is in
    let target : target_view c.target_on-target.result ≡ target_on c.args.schema.now c.args.object.now c.args.name.now =
    c.target_on-target.ensures ∙ ap (λ (t : Text). target_on c.args.schema.now t c.args.name.now) c.as_str.ensures in
    with_here c.args.schema.now c.args.groups.now.items (target_view c.target_on-target.result) c.args.object.now c.in-Some.at c.index_mut.result.now c.put_object.new.group there c.index_mut.ensures.value
    (c.in_ok-put_object-in-Some.ensures ∙ ap (with_object (group_view c.index_mut.result.now)) c.in_ok-own.ensures)
    ∙ ap (λ (t : Target). with_type c.args.schema.now (map group_view c.args.groups.now.items) t c.args.object.now) target

pub returns-in_ok-push-in-None-2 : goal.returns-in_ok-push-in-None-2
returns-in_ok-push-in-None-2 c =
    let none : first_at (leads_to c.args.schema.now (target_view c.target_on-target.result)) c.args.groups.now.items ≡ None =
    sym (ap (λ (gs : List Group). first_at (leads_to c.args.schema.now (target_view c.target_on-target.result)) gs) c.deref.ensures.value) ∙ sym c.find_group.ensures ∙ c.in-None.is in
    let target : target_view c.target_on-target.result ≡ target_on c.args.schema.now c.args.object.now c.args.name.now =
    c.target_on-target.ensures ∙ ap (λ (t : Text). target_on c.args.schema.now t c.args.name.now) c.as_str.ensures in
    let types : c.push.new.self.items ≡ c.args.object.now ∷ [] =
    c.in_ok-push-in-None.ensures.items ∙ (λ i. c.new-types.ensures.items i ++ c.in_ok-own.ensures i ∷ []) in
    ap (map group_view) c.in_ok-push-in-None-2.ensures.items
    ∙ map-append group_view c.args.groups.now.items (record { target = c.target_on-target.result; types = c.push.new.self } ∷ [])
    ∙ ap (λ (ts : List Text). map group_view c.args.groups.now.items ++ record { target = target_view c.target_on-target.result; types = ts } ∷ []) types
    ∙ with_none c.args.schema.now c.args.groups.now.items (target_view c.target_on-target.result) c.args.object.now none
    ∙ ap (λ (t : Target). with_type c.args.schema.now (map group_view c.args.groups.now.items) t c.args.object.now) target
