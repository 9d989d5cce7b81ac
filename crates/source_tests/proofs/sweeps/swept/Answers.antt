use Rattle.std.proofs.Common.{◌≡◌, [], true, ap, subst}
use Rattle.store_layers.proofs.store_sweeps_laws.Meeting.{leads_of_none}
use Rattle.store_layers.specs.Layered.{entries_of}
use Rattle.store_tree.specs.gql_plain.Order.{has_text}
use Rattle.store_layers.specs.store_model.Leads.{leads}
use Rattle.store_layers.specs.store_model.Entries.{all_named}
use Rattle.source_tests.proofs.sweeps.swept.Goals as goal

pub sweep_base-requires : goal.sweep_base-requires
sweep_base-requires g c =
    record {
      kept = λ j led.
          let base = c.in_ok-layers.layers.base in
          absurd (leads_of_none base j (subst (λ es. has_text (leads base (all_named es)) j ≡ true) (ap entries_of c.in_ok-layers.ensures) led));
    }
