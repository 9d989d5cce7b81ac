-- Uses that are gathered by names.
use Rattle.std.proofs.Common.{◌≡◌, Bool, true, false, cond, List, [], ◌++◌, map, Option, Some, None, option_map, unwrap_or, bytes_eq, refl, ap, sym, ◌∙◌}
use Rattle.std.proofs.lemmas.List.{append-nil}
use Rattle.std.specs.Option.{UnwrapsOrElse}
use Rattle.doc_sites.specs.schema_types.ArgumentRules.{Use}
use Rattle.doc_sites.specs.gql_graph.Texts.{Text}
use Rattle.doc_sites.proofs.gql_graph_laws.TextSteps.{same_text}
use denote.Ref.{Bor}

-- the uses of a name with those that are put behind them
pub gathered_put : (tells : Text → List Use) (name n : Text) (new all : List Use) (old : Option (List Use)) → all ≡ tells name ++ new → unwrap_or old [] ≡ tells n
    → unwrap_or (cond (bytes_eq name n) (Some all) old) [] ≡ tells n ++ cond (bytes_eq name n) new []
gathered_put tells name n new all old put h = on (bytes_eq name n) refl
  where
    on : (b : Bool) → bytes_eq name n ≡ b → unwrap_or (cond b (Some all) old) [] ≡ tells n ++ cond b new []
    on true e = put ∙ ap (λ (t : Text). tells t ++ new) (same_text name n e)
    on false e = h ∙ sym (append-nil (tells n))

-- what is kept of a name, or none
pub kept_or_none : {X Y : Type 0} (view : X → Y) (o : Option (Bor (List X))) (r : Bor (List X)) → UnwrapsOrElse o (λ x. x.now ≡ []) r
    → map view r.now ≡ unwrap_or (option_map (λ (us : Bor (List X)). map view us.now) o) []
kept_or_none view None r h = ap (map view) h
kept_or_none view (Some x) r h = ap (λ (y : Bor (List _)). map view y.now) h
