-- What is known of the uses in fragments.
use Rattle.std.specs.Prelude.{◌≡◌, List, length}
use Rattle.doc_sites.specs.schema_types.ArgumentRules.{Use}
use Rattle.doc_sites.specs.gql_graph.Graphs.{Tells}
use Rattle.doc_sites.specs.schema_types.NameRules.{spread_by}
use Rattle.doc_sites.specs.schema_types.Sites.{FragmentAt}
use Rattle.doc_uses.specs.UsesByName.{Gathers, uses_among}
use Rattle.doc_uses.specs.Needs.{SumsUp}
use Rattle.doc_uses.specs.declared.fragment_uses.FragmentUses.{FragmentUses}

-- it is what is known of these, where these are the uses in each
pub record Describes (known : FragmentUses) (uses : FragmentAt → List Use) (fs : List FragmentAt) : Type 0 where
  pub graph : Tells known.graph (spread_by fs)
  pub count : known.count ≡ length fs
  pub gathered : Gathers known.gathered (uses_among uses fs)
  pub needs : SumsUp known.needs (spread_by fs) (uses_among uses fs)
