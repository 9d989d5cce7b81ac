-- The fragment stands ready.
use Rattle.std.proofs.Common.{ap, sym, ◌∙◌}
use Rattle.std.specs.Prelude.{is_some, option_map}
use Rattle.plan_expand.specs.ReadyView.{find_in, ready_of}
use Rattle.plan_expand.proofs.Answering.{found_none, fragment_answered, fragment_has}
use Rattle.plan_expand.proofs.expander.Expander.expand_fragment.Goals as goal

pub returns : goal.returns
returns c =
    fragment_answered c.args.self.now c.requires.ready c.args.name.now (ready_of c.in-Some.ready.now)
    (sym (ap (option_map (λ f. ready_of f.now)) c.in-Some.is) ∙ c.find.ensures ∙ ap (find_in c.args.self.now.fragments) c.as_str.ensures) _ c.expand_alone.ensures

pub unreachable-requires : goal.unreachable-requires
unreachable-requires c =
    found_none (λ f. ready_of f.now) c.find.result _ (ap is_some (c.find.ensures ∙ ap (find_in c.args.self.now.fragments) c.as_str.ensures) ∙ fragment_has c.args.self.now c.requires.ready c.args.name.now) c.requires.there c.in-None.is
