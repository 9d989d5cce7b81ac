-- What a payload says.
use Rattle.std.specs.Prelude.{◌≡◌, List, true, codes, nat_eq}
use Rattle.std.specs.List.{AllByRecursion, starts_with}
use Rattle.store_model.specs.declared.facts.Fact.{Fact}
use Rattle.store_model.specs.declared.facts.HandleFact.{HandleFact}

-- the fields of records, and the pages of connections
pub record Said : Type 0 where
  pub facts : List Fact
  pub handles : List HandleFact

-- the key under which the client keeps a connection is no key of a field of a schema
abbrev pub HaveHandleKeys : List HandleFact → Type 0
HaveHandleKeys handles = AllByRecursion (λ handle. starts_with nat_eq handle.handle_key (codes "__") ≡ true) handles
