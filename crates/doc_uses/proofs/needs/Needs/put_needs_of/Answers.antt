-- One more name, and all of them.
use Rattle.std.proofs.Common.{◌≡◌, true, true≢false, [], List, Option, map, get_or, sym, subst, ◌∙◌, arith}
use Rattle.doc_sites.specs.schema_types.ArgumentRules as rules
use Rattle.doc_sites.specs.gql_graph.Texts.{Text}
use Rattle.doc_uses.specs.Needs.{CoversKnown, uses_needed}
use Rattle.doc_uses.specs.UseView.{use_of}
use Rattle.doc_uses.proofs.NeedSteps.{covers_known, name_next, none_left}
use Rattle.doc_uses.proofs.needs.Needs.put_needs_of.Goals as goal
use denote.Ref.{Bor}

none : Bor Text
none = record { ref_ptr = (0, 0); now = [] }

pub names-init : goal.names-init
names-init c = (λ vs o e. e, λ m h k. absurd (true≢false (sym h ∙ k)))

pub names-preserved : goal.names-preserved
unfolding none
names-preserved c =
    let is_known : c.in_ok-is_known.is_known ≡ true = grind arith in
    let all : List rules.Use = map use_of c.put_known.new.all.items in
    let put = c.in_ok-is_known.ensures is_known in
    let known : CoversKnown all (uses_needed c.args.self.now (get_or c.args.names.now c.names.name-index none).now) =
    subst (λ (o : Option (List rules.Use)). CoversKnown all o) c.find.ensures put.1 in
    let before = c.names.invariant in (
      λ vs o e. before.0 vs o (put.0 vs o e),
      λ m h. name_next (λ (t : Text). CoversKnown all (uses_needed c.args.self.now t)) c.args.names.now c.names.name-index none m (omega arith) known
          (λ k. covers_known all _ (uses_needed c.args.self.now m) put.0 (before.1 m h k)),
    )

pub returns-then-not-is_known : goal.returns-then-not-is_known
returns-then-not-is_known c = λ e. absurd (true≢false (sym e))

pub returns : goal.returns
returns c = λ e. (c.names.invariant.0, λ m h. c.names.invariant.1 m h (none_left c.args.names.now c.names.name-index m (omega arith)))
