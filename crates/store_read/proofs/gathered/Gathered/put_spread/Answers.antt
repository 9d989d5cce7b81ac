-- A spread of a known fragment, and one of a new one.
use Rattle.std.proofs.Common.{◌≡◌, true, false, ◌∷◌, [], ◌++◌, map, is_some, option_copied, ap, sym, ◌∙◌}
use Rattle.std.proofs.lemmas.List.{map-append}
use Rattle.std.proofs.lemmas.Map.Text.{btree_map_updates_str}
use Rattle.plan_ir.specs.gql_plain.Order.{has_text}
use Rattle.store_read.proofs.SpreadSteps.{known_more, pointer_known, pointer_new}
use Rattle.store_read.proofs.gathered.Gathered.put_spread.Goals as goal
use Rattle.store_read.specs.FieldView.{spread_at}
use Rattle.store_read.specs.Gathering.{spreads_in}
use Rattle.store_read.specs.Spreads.{fragments}

pub returns-in-Some-clause-spreads : goal.returns-in-Some-clause-spreads
returns-in-Some-clause-spreads c =
    let known : has_text (fragments (spreads_in c.args.self.now)) c.args.spread.fragment.now ≡ true =
    ap (has_text (fragments (spreads_in c.args.self.now))) (sym c.as_str-name.ensures) ∙ sym (c.requires.names c.as_str-name.result.now)
    ∙ ap is_some (sym c.get.ensures.value ∙ ap option_copied c.in-Some.is) in
    pointer_known (spreads_in c.args.self.now) (spread_at c.args.spread) known

pub returns-in_ok-push-in-None-clause-spreads : goal.returns-in_ok-push-in-None-clause-spreads
returns-in_ok-push-in-None-clause-spreads c =
    let unknown : has_text (fragments (spreads_in c.args.self.now)) c.args.spread.fragment.now ≡ false =
    ap (has_text (fragments (spreads_in c.args.self.now))) (sym c.as_str-name.ensures) ∙ sym (c.requires.names c.as_str-name.result.now)
    ∙ ap is_some (sym c.get.ensures.value ∙ ap option_copied c.in-None.is) in
    ap (map spread_at) c.in_ok-push-in-None.ensures.items
    ∙ map-append spread_at c.args.self.now.spreads.items (c.args.spread ∷ [])
    ∙ pointer_new (spreads_in c.args.self.now) (spread_at c.args.spread) unknown

pub returns-in_ok-push-in-None-clause-placed : goal.returns-in_ok-push-in-None-clause-placed
returns-in_ok-push-in-None-clause-placed c = record {
  keys = c.requires.keys;
  kept = c.requires.kept;
  names = λ n.
      ap is_some (btree_map_updates_str c.as_str-name.result.now c.args.self.now.fragments c.insert.new.self _ c.in_ok-insert-in-None.ensures.updates n)
      ∙ known_more (fragments (spreads_in c.args.self.now)) c.as_str-name.result.now n c.len.result _ (c.requires.names n)
      ∙ ap (λ k. has_text (fragments (spreads_in c.args.self.now) ++ k ∷ []) n) c.as_str-name.ensures
      ∙ sym (ap (λ ns. has_text ns n)
      (ap (λ ss. fragments (map spread_at ss)) c.in_ok-push-in-None.ensures.items
      ∙ ap fragments (map-append spread_at c.args.self.now.spreads.items (c.args.spread ∷ []))
      ∙ map-append (λ p. p.fragment) (spreads_in c.args.self.now) (spread_at c.args.spread ∷ [])));
}
