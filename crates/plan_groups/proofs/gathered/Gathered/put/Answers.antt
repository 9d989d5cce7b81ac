-- A field of a known response key, and one of a new one.
use Rattle.std.proofs.Common.{◌≡◌, None, Some, option_copied, ap, sym, ◌∙◌, arith}
use Rattle.std.proofs.lemmas.Map.Text.{hash_map_updates_str}
use Rattle.plan_groups.proofs.GroupSteps.{placed_at, placed_new, put_new_is}
use Rattle.plan_groups.proofs.PutSteps.{place_put, place_within, put_there}
use Rattle.plan_groups.proofs.gathered.Gathered.put.Goals as goal
use Rattle.plan_groups.specs.FieldView.{asked_at}
use Rattle.plan_groups.specs.Putting.{place_of}

pub put_behind-requires : goal.put_behind-requires
put_behind-requires c =
    place_within c.args.self.now.groups.items c.args.field.response.now c.in-Some.place.now (placed_at c.args.self.now.groups.items c.as_str-key.result.now c.args.field.response.now _ _ c.as_str-key.ensures (c.requires.placed.at c.as_str-key.result.now)
    (sym c.get.ensures.value ∙ ap option_copied c.in-Some.is))

pub returns-in_ok-put_behind-in-Some-clause-put : goal.returns-in_ok-put_behind-in-Some-clause-put
returns-in_ok-put_behind-in-Some-clause-put c =
    c.in_ok-put_behind-in-Some.ensures ∙ sym (put_there c.args.self.now.groups.items (asked_at c.args.field) c.in-Some.place.now (placed_at c.args.self.now.groups.items c.as_str-key.result.now c.args.field.response.now _ _ c.as_str-key.ensures (c.requires.placed.at c.as_str-key.result.now)
    (sym c.get.ensures.value ∙ ap option_copied c.in-Some.is)))

pub returns-in_ok-put_behind-in-Some-clause-placed : goal.returns-in_ok-put_behind-in-Some-clause-placed
returns-in_ok-put_behind-in-Some-clause-placed c = record {
  at = λ n.
      c.requires.placed.at n
      ∙ sym (place_put c.in-Some.place.now c.args.self.now.groups.items (asked_at c.args.field) n)
      ∙ sym (ap (λ hs. place_of hs n) c.in_ok-put_behind-in-Some.ensures);
}

pub returns-in_ok-push-in-None-clause-put : goal.returns-in_ok-push-in-None-clause-put
returns-in_ok-push-in-None-clause-put c =
    put_new_is c.args.self.now.groups.items c.push.new.self.items (asked_at c.args.field) _ c.in_ok-group-in-None.ensures c.in_ok-push-in-None.ensures.items (placed_at c.args.self.now.groups.items c.as_str-key.result.now c.args.field.response.now _ _ c.as_str-key.ensures (c.requires.placed.at c.as_str-key.result.now)
    (sym c.get.ensures.value ∙ ap option_copied c.in-None.is))

pub returns-in_ok-push-in-None-clause-placed : goal.returns-in_ok-push-in-None-clause-placed
returns-in_ok-push-in-None-clause-placed c = record {
  at = λ n.
      placed_new c.args.self.now.groups.items c.push.new.self.items (asked_at c.args.field) _ c.in_ok-group-in-None.ensures c.in_ok-push-in-None.ensures.items (placed_at c.args.self.now.groups.items c.as_str-key.result.now c.args.field.response.now _ _ c.as_str-key.ensures (c.requires.placed.at c.as_str-key.result.now)
      (sym c.get.ensures.value ∙ ap option_copied c.in-None.is))
      c.as_str-key.result.now n c.len.result _ _ c.as_str-key.ensures (grind (arith, c.len.ensures)) (c.requires.placed.at n)
      (hash_map_updates_str c.as_str-key.result.now c.args.self.now.places c.insert.new.self _ c.in_ok-insert-in-None.ensures.updates n);
}
