-- An operation is passed over, and a fragment is put under its name.
use Rattle.std.proofs.Common.{ap, sym, ◌∙◌}
use Rattle.std.specs.Option.{option_or}
use Rattle.doc_sites.specs.SitesView.{definition_of}
use Rattle.doc_sites.specs.declared.site.DefinitionAt.{DefinitionAt}
use Rattle.plan_ir.specs.Projects.{place_in}
use Rattle.plan_expand.specs.Making.{Ready}
use Rattle.plan_expand.specs.ReadyView.{find_in, ready_in, ready_named}
use Rattle.plan_expand.proofs.Tables.{or_none}
use Rattle.plan_expand.proofs.fragments.Fragments.put_definition.Goals as goal

pub returns-in-Operation : goal.returns-in-Operation
returns-in-Operation c = λ n.
    or_none (find_in c.args.self.now n)
    ∙ sym (ap (λ (d : DefinitionAt). option_or (find_in c.args.self.now n) (ready_in (place_in c.args.nodes.now) (definition_of d) n)) c.in-Operation.is)

pub returns-in_ok-put-in-Fragment : goal.returns-in_ok-put-in-Fragment
returns-in_ok-put-in-Fragment c = λ n.
    c.in_ok-put-in-Fragment.ensures n
    ∙ ap (λ (r : Ready). option_or (find_in c.args.self.now n) (ready_named c.in-Fragment.fragment.name.name.now r n)) c.in_ok-ready-in-Fragment.ensures
    ∙ sym (ap (λ (d : DefinitionAt). option_or (find_in c.args.self.now n) (ready_in (place_in c.args.nodes.now) (definition_of d) n)) c.in-Fragment.is)
