-- What one more confirmation makes of records.
use Rattle.std.proofs.Common.{◌≡◌, List, [], ◌∷◌, ◌++◌, refl}
use Rattle.relay_machine.specs.Machine.{Confirmation, Project, confirm_one, fold_confirmed}
use Rattle.plan_ir.specs.store_model.Records.{Records}

-- ---- folds

pub confirmed_after : (p : Project) (cs : List Confirmation) (c : Confirmation) (m : Records) → fold_confirmed p (cs ++ c ∷ []) m ≡ confirm_one p c (fold_confirmed p cs m)
confirmed_after p [] c m = refl
confirmed_after p (x ∷ cs) c m = confirmed_after p cs c (confirm_one p x m)
