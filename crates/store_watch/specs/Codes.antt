-- The codes of watches and of notices.
use Rattle.std.specs.Prelude.{ℕ, Bool, List, Option, refl}
use Rattle.std.specs.Coded.{Coded, code_by, coded×, coded_bool, coded_list, coded_option, coded_ℕ}
use Rattle.plan_ir.specs.gql_plain.Codes.{coded_members, coded_text, coded_tree}
use Rattle.plan_ir.specs.gql_plain.Tree.{Tree}
use Rattle.plan_ir.specs.Reader.{Reader}
use Rattle.plan_ir.specs.ReaderCode.{coded_reader}
use Rattle.plan_ir.specs.schema_types.Environments.{Values}
use Rattle.plan_ir.specs.store_model.Walks.{Reading}
use Rattle.plan_ir.specs.store_record.Keys.{Text}
use Rattle.store_watch.specs.Watching.{Look, Telling, Watch}

abbrev pub coded_reading : Coded Reading
coded_reading =
    code_by (Tree × (Bool × List Text)) (coded× coded_tree (coded× coded_bool (coded_list coded_text)))
    (λ r. (r.value, (r.missing, r.seen))) (λ q. record { value = q.0; missing = q.1.0; seen = q.1.1 }) (λ _. refl)

abbrev pub coded_look : Coded Look
coded_look =
    code_by (Text × (Option Text × (Text × (Values × (Reader × (List Text × Text))))))
    (coded× coded_text (coded× (coded_option coded_text) (coded× coded_text (coded× coded_members (coded× coded_reader (coded× (coded_list coded_text) coded_text))))))
    (λ l. (l.handle, (l.fragment, (l.root, (l.environment, (l.steps, (l.types, l.id)))))))
    (λ q. record { handle = q.0; fragment = q.1.0; root = q.1.1.0; environment = q.1.1.1.0; steps = q.1.1.1.1.0; types = q.1.1.1.1.1.0; id = q.1.1.1.1.1.1 })
    (λ _. refl)

abbrev pub coded_watch : Coded Watch
coded_watch =
    code_by (Text × (Look × Reading)) (coded× coded_text (coded× coded_look coded_reading))
    (λ w. (w.name, (w.what, w.kept))) (λ q. record { name = q.0; what = q.1.0; kept = q.1.1 }) (λ _. refl)

abbrev pub coded_telling : Coded Telling
coded_telling =
    code_by (ℕ × (Reading × Bool)) (coded× coded_ℕ (coded× coded_reading coded_bool))
    (λ t. (t.place, (t.gives, t.told))) (λ q. record { place = q.0; gives = q.1.0; told = q.1.1 }) (λ _. refl)
