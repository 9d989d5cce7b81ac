-- What a walk has found, as it is kept.
use Rattle.std.specs.Prelude.{ℕ, List, map, refl}
use Rattle.std.specs.Coded.{Coded, code_by, coded×, coded_list, coded_ℕ}
use Rattle.std.specs.declared.alloc.Global.{Global}
use Rattle.std.specs.declared.vec.Vec.{Vec}
use Rattle.plan_ir.specs.store_record.Keys.{Text}
use Rattle.store_retain.specs.Steps.{Found, Stand}
use denote.Ref.{Bor}

abbrev pub stand_of : Bor (List ℕ) × Vec ℕ Global → Stand
stand_of s = (s.0.now, s.1.items)

abbrev pub found_of : List (Bor (List ℕ)) → List (Bor (List ℕ) × Vec ℕ Global) → Found
found_of ids next = record { ids = map (λ k. k.now) ids; next = map stand_of next }

abbrev pub coded_found : Coded Found
coded_found =
    code_by (List Text × List Stand) (coded× (coded_list (coded_list coded_ℕ)) (coded_list (coded× (coded_list coded_ℕ) (coded_list coded_ℕ))))
    (λ f. (f.ids, f.next)) (λ q. record { ids = q.0; next = q.1 }) (λ _. refl)
