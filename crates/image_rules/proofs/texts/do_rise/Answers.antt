use Rattle.std.proofs.Common.{◌-◌, refl, sym, ◌∙◌, arith}
use Rattle.image_rules.proofs.ListLaws.{rise_ended, rise_further, rise_last}
use Rattle.image_rules.proofs.texts.do_rise.Goals as goal

pub texts-init : goal.texts-init
texts-init c = record { is = refl; within = omega arith }

pub texts-preserved : goal.texts-preserved
texts-preserved c = record {
  is =
      c.texts.invariant.is
      ∙ rise_further (λ t. t.now) c.args.texts.now c.texts.at _ _ c.texts.invariant.within c.texts-test.true (sym c.if-not-is_below.false ∙ c.is_below.ensures);
  within = omega arith;
}

pub returns-then-not-is_below : goal.returns-then-not-is_below
returns-then-not-is_below c =
    sym (c.texts.invariant.is
    ∙ rise_ended (λ t. t.now) c.args.texts.now c.texts.at _ _ c.texts.invariant.within c.texts-test.true (sym c.if-not-is_below.true ∙ c.is_below.ensures))

pub returns : goal.returns
returns c =
    sym (c.texts.invariant.is ∙ rise_last (λ t. t.now) c.args.texts.now (c.texts.at - 1) (omega (arith, c.texts.invariant.within, c.texts-test.false)))
