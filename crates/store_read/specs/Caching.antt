-- What a cache is seen as, and what is read of groups and pointers.
use Rattle.std.specs.Prelude.{ℕ, Bool, cond, List, [], ◌∷◌, refl}
use Rattle.std.specs.Coded.{Coded, code_by, coded×, coded_ℕ, coded_list}
use Rattle.plan_ir.specs.gql_plain.Codes.{coded_members}
use Rattle.plan_ir.specs.Reader.{Reader}
use Rattle.plan_ir.specs.ReaderCode.{coded_reader}
use Rattle.plan_ir.specs.ReaderMeaning.{ReaderPart}
use Rattle.plan_ir.specs.schema_types.Environments.{Values}
use Rattle.plan_ir.specs.store_model.Items.{Form, Group, Pointer, parts}
use Rattle.plan_ir.specs.store_model.Walks.{read_key}
use Rattle.plan_ir.specs.store_record.Keys.{Text, Arguments}

-- the parts whose items a cache has, and how many records may be stood at one below another
pub record Caching : Type 0 where
  pub parts : List ReaderPart
  pub levels : ℕ

abbrev pub coded_part : Coded ReaderPart
coded_part = code_by (Values × Reader) (coded× coded_members coded_reader) (λ p. (p.environment, p.steps)) (λ q. record { environment = q.0; steps = q.1 }) (λ _. refl)

abbrev pub coded_caching : Coded Caching
coded_caching = code_by (List ReaderPart × ℕ) (coded× (coded_list coded_part) coded_ℕ) (λ c. (c.parts, c.levels)) (λ t. record { parts = t.0; levels = t.1 }) (λ _. refl)

-- the fields of one response key, as they are read
pub record ReadGroup : Type 0 where
  pub response : Text
  pub key : Text
  pub form : Form
  pub below : Caching

abbrev pub read_group : ℕ → Group ReaderPart → ReadGroup
read_group n g = record { response = g.first.ask.response; key = read_key g.first.ask; form = g.first.ask.form; below = record { parts = parts g; levels = n } }

-- a pointer as it is read: where its fragment is read, its scope is not shown
pub record ReadPointer : Type 0 where
  pub fragment : Text
  pub scope : Arguments
  pub inline : Bool
  pub below : Caching

abbrev pub read_pointer : ℕ → Pointer ReaderPart → ReadPointer
read_pointer n p = record { fragment = p.fragment; scope = cond p.inline [] p.scope; inline = p.inline; below = record { parts = p.body ∷ []; levels = n } }
