use Rattle.std.proofs.Common.{◌≡◌, ◌+◌, ◌*◌, ◌≤◌, Bool, true, false, length, sym, subst}
use Rattle.store_update.specs.gql_plain.Order.{has_text}
use Rattle.store_update.specs.store_record.Keys.{Text}
use Rattle.store_update.specs.store_model.Leads.{leads}
use Rattle.store_update.specs.store_model.Records.{slot_at}
use Rattle.store_update.specs.store_model.Sweeps.{sweep, dropped}
use Rattle.store_update.specs.store_model.Entries.{all_named}
use Rattle.store_layers.proofs.layers.Layers.draft_sweep.Goals as goal
use Rattle.store_layers.specs.Drafts.{Fits, placed}
use Rattle.store_layers.specs.Layered.{Layered, entries_of, swept, view_of}
use Rattle.store_layers.specs.Work.{weights}

pub sweep-requires-clause-kept : goal.sweep-requires-clause-kept
sweep-requires-clause-kept g c =
    subst (λ (s : Layered). (j : Text) → has_text (leads s.base (all_named (entries_of s.live))) j ≡ true → has_text c.args.keep.now j ≡ true) (sym c.self.view_is) c.requires.kept

pub returns-clause-fits : goal.returns-clause-fits
returns-clause-fits g c = subst (λ (s : Layered). Fits g.S.RecordSource.records s c.in_ok-draft.draft) c.self.view_is c.in_ok-draft.ensures.fits

pub returns-clause-placed : goal.returns-clause-placed
returns-clause-placed g c = subst (λ (s : Layered). placed g.S.RecordSource.records s c.in_ok-draft.draft ≡ swept c.args.keep.now s) c.self.view_is c.in_ok-draft.ensures.placed

pub returns-clause-dropped : goal.returns-clause-dropped
returns-clause-dropped g c = subst (λ (s : Layered). c.in_ok-draft.draft.touched ≡ dropped (has_text c.args.keep.now) s.base) c.self.view_is c.in_ok-draft.ensures.dropped

pub returns-clause-changed : goal.returns-clause-changed
returns-clause-changed g c =
    subst (λ (s : Layered). (id : Text) → has_text c.in_ok-draft.draft.touched id ≡ false → slot_at id (view_of (swept c.args.keep.now s)) ≡ slot_at id (view_of s)) c.self.view_is c.in_ok-draft.ensures.changed
