-- Pairs of types that are known to have a possible type in common.
use Rattle.std.proofs.Common.{◌≡◌, Bool, true, false, true≢false, cond, List, [], ◌∷◌, Option, Some, None, option_copied, bytes_eq, refl, ap, sym, subst, ◌∙◌}
use Rattle.doc_sites.specs.gql_plain.Order.{has_text}
use Rattle.doc_sites.specs.schema_types.FieldRules.{have_common_type}
use Rattle.doc_sites.specs.gql_graph.Seen.{Knows}
use Rattle.doc_sites.specs.schema_tables.Types.{Text, Defs}
use Rattle.doc_sites.specs.gql_graph.declared.seen.Seen.{Seen}
use Rattle.doc_sites.proofs.gql_graph_laws.TextSteps.{either_of, same_text}
use Rattle.doc_fields.specs.Common.{IsCommonWith, IsCommonIn}
use denote.Ref.{Bor}

-- what is kept of a type
pub kept_common : (defs : Defs) (of : Text) (o p : Option Seen) → p ≡ o → IsCommonIn defs of o → IsCommonIn defs of p
kept_common defs of o p e h = subst (λ (q : Option Seen). IsCommonIn defs of q) (sym e) h

-- a type of which nothing is known
pub none_common : (defs : Defs) (of : Text) (o : Option Seen) → o ≡ None → IsCommonIn defs of o
none_common defs of o e = kept_common defs of None o e tt

pub some_common : (defs : Defs) (of : Text) (o : Option Seen) (seen : Seen) → o ≡ Some seen → IsCommonIn defs of o → IsCommonWith defs of seen
some_common defs of o seen e h = subst (λ (q : Option Seen). IsCommonIn defs of q) e h

-- the same through a loan
pub lent_common : (defs : Defs) (of : Text) (o : Option (Bor Seen)) (p : Option Seen) (seen : Bor Seen) → o ≡ Some seen → option_copied o ≡ p → IsCommonIn defs of p → IsCommonWith defs of seen.now
lent_common defs of o p seen e g h = some_common defs of p seen.now (sym g ∙ ap (λ (q : Option (Bor Seen)). option_copied q) e) h

-- no name is seen
pub first_common : (defs : Defs) (of : Text) (seen : Seen) → Knows seen.names [] → IsCommonWith defs of seen
first_common defs of seen k = ([], k, λ on h. absurd (true≢false (sym h)))

-- one more name
pub next_common : (defs : Defs) (of on : Text) (old new : Seen) → IsCommonWith defs of old → ((before : List Text) → Knows old.names before → Knows new.names (on ∷ before))
    → have_common_type defs of on ≡ true → IsCommonWith defs of new
next_common defs of on old new w known h = (
  on ∷ w.0,
  known w.0 w.1,
  λ m k. either_of (bytes_eq on m) (has_text w.0 m) k (λ g. ap (λ (t : Text). have_common_type defs of t) (sym (same_text on m g)) ∙ h) (λ g. w.2 m g),
)

-- what is taken out is not there
pub taken_common : (defs : Defs) (other : Text) (b : Bool) (old : Option Seen) → IsCommonIn defs other old → IsCommonIn defs other (cond b None old)
taken_common defs other true old h = tt
taken_common defs other false old h = h

-- what is put is there
pub put_common : (defs : Defs) (of other : Text) (new : Seen) (old : Option Seen) → IsCommonWith defs of new → IsCommonIn defs other old → IsCommonIn defs other (cond (bytes_eq of other) (Some new) old)
put_common defs of other new old w h = on (bytes_eq of other) (λ e. subst (λ (t : Text). IsCommonWith defs t new) (same_text of other e) w) where
  on : (b : Bool) → (b ≡ true → IsCommonWith defs other new) → IsCommonIn defs other (cond b (Some new) old)
  on true f = f refl
  on false f = h
