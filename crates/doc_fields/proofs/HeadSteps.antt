-- Keys that are found by names.
use Rattle.std.proofs.Common.{◌≡◌, Bool, true, false, cond, ◌&&◌, List, [], Option, Some, option_map, unwrap_or, bytes_eq, refl, ap, sym, ◌∙◌}
use Rattle.doc_sites.specs.schema_types.FieldRules.{Key}
use Rattle.doc_sites.specs.gql_graph.Texts.{Text}
use Rattle.doc_sites.proofs.gql_graph_laws.TextSteps.{same_text}
use Rattle.doc_fields.specs.Keys.{Sum, join_sums, sum_of}
use Rattle.doc_fields.proofs.Sums.{joined-none}

-- what is put is found
pub found_put : {X Y : Type 0} (view : X → Y) (d : Y) (b : Bool) (new : X) (old : Option X) → unwrap_or (option_map view (cond b (Some new) old)) d ≡ cond b (view new) (unwrap_or (option_map view old) d)
found_put view d true new old = refl
found_put view d false new old = refl

-- the keys of a fragment with those of others of its name
pub head_put : (tells : Text → Sum) (name n : Text) (takes : Bool) (own : List Key) (all : Sum) → takes ≡ true → all ≡ join_sums (tells name) (sum_of own)
    → cond (bytes_eq name n) all (tells n) ≡ join_sums (tells n) (sum_of (cond (takes && bytes_eq name n) own []))
head_put tells name n takes own all t h = on (bytes_eq name n) refl ∙ sym (ap (λ (b : Bool). join_sums (tells n) (sum_of (cond (b && bytes_eq name n) own []))) t)
  where
    on : (b : Bool) → bytes_eq name n ≡ b → cond b all (tells n) ≡ join_sums (tells n) (sum_of (cond b own []))
    on true e = h ∙ ap (λ (m : Text). join_sums (tells m) (sum_of own)) (same_text name n e)
    on false e = sym (joined-none (tells n))

-- a fragment that does not apply has no keys there
pub head_passed : (old : Sum) (own : List Key) (takes b : Bool) → takes ≡ false → old ≡ join_sums old (sum_of (cond (takes && b) own []))
head_passed old own takes b t = sym (joined-none old) ∙ sym (ap (λ (a : Bool). join_sums old (sum_of (cond (a && b) own []))) t)
