-- What an object tells does not depend on the order of its fields and pointers, where these differ.
use Rattle.std.proofs.Common.{◌≡◌, List, [], ◌∷◌, map, Option, Some, refl, sym, ap, subst, ◌∙◌}
use Rattle.std.specs.List.{AllZip}
use Rattle.plan_ir.specs.gql_plain.Tree.{Tree}
use Rattle.plan_ir.specs.ReaderMeaning.{ReaderPart}
use Rattle.plan_order.proofs.AlikeTraces.{AreMet, met-after, met-assoc, met-join, met-refl, met-sym, met-trans}
use Rattle.plan_order.proofs.AlikeValues.{AreAlikeBelow, pointed_met, pointed_shown, value_alike}
use Rattle.plan_order.proofs.FieldsMet.{looks_no_loss, looks_nowhere}
use Rattle.plan_order.proofs.Grouping.{alone_in, fragment_of, fragments_in, keys_in, pointed_of, response_of}
use Rattle.plan_order.proofs.PlainObjects.{AreShown, object_of}
use Rattle.plan_order.proofs.ShuffledObjects.{asked_same, asked_shuffled, join_all, join_shuffled, pairs_shuffled, pointed_same, pointed_shuffled, put_pairs, zip_join, zip_map}
use Rattle.plan_order.proofs.Shuffles.{DoDiffer, Shuffle, shuffle-back, shuffle-map}
use Rattle.plan_order.specs.Singles.{IsSameAsked, IsSameItem, IsSamePart, IsSamePointed}
use Rattle.plan_ir.specs.store_model.Items.{Asked, Item, Pointer, asked_of}
use Rattle.plan_ir.specs.store_model.Walks.{Fields, Next, Shown, Trace, fields_at, group_at, join_traces, looks_at, mark_pointers, marks, pointer_at, pointers_at, read_key, value_at, with_found, with_value}
use Rattle.plan_ir.specs.store_record.Keys.{Text}

module _ (next : Next ReaderPart) (T id : Text) (fields : Fields) where
  abbrev pair_of : Asked ReaderPart → Text × Option Tree
  pair_of a = (a.ask.response, (group_at next T fields (alone_in a)).0)

  abbrev met_of : Asked ReaderPart → Trace
  met_of a = (group_at next T fields (alone_in a)).1

  abbrev spot_of : Pointer ReaderPart → Text × Option Tree
  spot_of p = (p.fragment, Some (pointer_at next T id p p.inline).0)

  abbrev read_of : Pointer ReaderPart → Trace
  read_of p = (pointer_at next T id p p.inline).1

  fields_put : (end : Shown × Trace) (fs : List (Asked ReaderPart)) → (fields_at next T id fields end (map alone_in fs)).0 ≡ put_pairs end.0 (map pair_of fs)
  fields_put end [] = refl
  fields_put end (a ∷ fs) = ap (with_found a.ask.response (group_at next T fields (alone_in a)).0) (fields_put end fs)

  fields_joined : (end : Shown × Trace) (fs : List (Asked ReaderPart)) → AreMet (join_traces (join_all (map met_of fs)) end.1) (fields_at next T id fields end (map alone_in fs)).1
  fields_joined end [] = met-refl end.1
  fields_joined end (a ∷ fs) =
      let look = looks_at a.ask.form id (read_key a.ask) in
      met-trans _ (join_traces (met_of a) (join_traces (join_all (map met_of fs)) end.1)) _ (met-assoc (met_of a) (join_all (map met_of fs)) end.1)
      (met-join (met_of a) (join_traces look (met_of a)) _ _ (met-after look (met_of a) (looks_no_loss a.ask.form id (read_key a.ask)) (looks_nowhere a.ask.form id (read_key a.ask))) (fields_joined end fs))

  pointers_put : (ps : List (Pointer ReaderPart)) → (pointers_at next T id ps).0 ≡ put_pairs [] (map spot_of ps)
  pointers_put [] = refl
  pointers_put (p ∷ ps) = ap (with_value p.fragment (pointer_at next T id p p.inline).0) (pointers_put ps)

  pointers_joined : (ps : List (Pointer ReaderPart)) → (pointers_at next T id ps).1 ≡ join_all (map read_of ps)
  pointers_joined [] = refl
  pointers_joined (p ∷ ps) = ap (join_traces (read_of p)) (pointers_joined ps)

  pair_keys : (fs : List (Asked ReaderPart)) → map (λ (p : Text × Option Tree). p.0) (map pair_of fs) ≡ map response_of fs
  pair_keys [] = refl
  pair_keys (a ∷ fs) = ap (λ (ks : List Text). a.ask.response ∷ ks) (pair_keys fs)

  spot_keys : (ps : List (Pointer ReaderPart)) → map (λ (p : Text × Option Tree). p.0) (map spot_of ps) ≡ map fragment_of ps
  spot_keys [] = refl
  spot_keys (p ∷ ps) = ap (λ (ks : List Text). p.fragment ∷ ks) (spot_keys ps)

  -- the first of two parts that are the same reads like the second
  module _ (reads : (p q : ReaderPart) → IsSamePart p q → AreAlikeBelow next next p q) where
    pair_same : (a b : Asked ReaderPart) → IsSameAsked a b → pair_of a ≡ pair_of b
    pair_same a b s =
        (λ i. (a.ask.response, (value_alike next next a.part b.part (reads a.part b.part s.part) T a.ask.form (fields (read_key a.ask))).shown i))
        ∙ ap (λ k. (k.response, (value_at next T (b.part ∷ []) k.form (fields (read_key k))).0)) s.ask

    met_same : (a b : Asked ReaderPart) → IsSameAsked a b → AreMet (met_of a) (met_of b)
    met_same a b s =
        subst (λ k. AreMet (met_of a) (value_at next T (b.part ∷ []) k.form (fields (read_key k))).1) s.ask
        (value_alike next next a.part b.part (reads a.part b.part s.part) T a.ask.form (fields (read_key a.ask))).met

    spot_same : (p q : Pointer ReaderPart) → IsSamePointed p q → spot_of p ≡ spot_of q
    spot_same p q s =
        λ i. (s.fragment i, Some ((pointed_shown next next T id p q s.scope (reads p.body q.body s.body) p.inline ∙ ap (λ b. (pointer_at next T id q b).0) s.inline) i))

    read_same : (p q : Pointer ReaderPart) → IsSamePointed p q → AreMet (read_of p) (read_of q)
    read_same p q s = subst (λ b. AreMet (read_of p) (pointer_at next T id q b).1) s.inline (pointed_met next next T id p q (reads p.body q.body s.body) p.inline)

    module _ (owner : Text) (xs zs ys : List (Item ReaderPart)) (same : AllZip IsSameItem xs zs) (moved : Shuffle zs ys) (keys : DoDiffer (keys_in ys)) (spread : DoDiffer (fragments_in ys)) where
      members_same : (end : Shown) → put_pairs end (map pair_of (asked_of ys)) ≡ put_pairs end (map pair_of (asked_of xs))
      members_same end =
          pairs_shuffled end (shuffle-map pair_of (asked_shuffled (shuffle-back moved))) (subst DoDiffer (sym (pair_keys (asked_of ys))) keys)
          ∙ ap (put_pairs end) (sym (zip_map IsSameAsked pair_of pair_same (asked_of xs) (asked_of zs) (asked_same xs zs same)))

      spots_same : put_pairs [] (map spot_of (pointed_of ys)) ≡ put_pairs [] (map spot_of (pointed_of xs))
      spots_same =
          pairs_shuffled [] (shuffle-map spot_of (pointed_shuffled (shuffle-back moved))) (subst DoDiffer (sym (spot_keys (pointed_of ys))) spread)
          ∙ ap (put_pairs []) (sym (zip_map IsSamePointed spot_of spot_same (pointed_of xs) (pointed_of zs) (pointed_same xs zs same)))

      fields_met_same : AreMet (join_all (map met_of (asked_of ys))) (join_all (map met_of (asked_of xs)))
      fields_met_same =
          met-trans _ _ _ (join_shuffled (shuffle-map met_of (asked_shuffled (shuffle-back moved))))
          (met-sym _ _ (zip_join IsSameAsked met_of met_same (asked_of xs) (asked_of zs) (asked_same xs zs same)))

      pointers_met_same : AreMet (join_all (map read_of (pointed_of ys))) (join_all (map read_of (pointed_of xs)))
      pointers_met_same =
          met-trans _ _ _ (join_shuffled (shuffle-map read_of (pointed_shuffled (shuffle-back moved))))
          (met-sym _ _ (zip_join IsSamePointed read_of read_same (pointed_of xs) (pointed_of zs) (pointed_same xs zs same)))

      abbrev end_of : List (Item ReaderPart) → Shown × Trace
      end_of items = marks owner id (pointers_at next T id (pointed_of items))

      ends_same : (end_of ys).0 ≡ (end_of xs).0
      ends_same = ap (mark_pointers owner id) (pointers_put (pointed_of ys) ∙ spots_same ∙ sym (pointers_put (pointed_of xs)))

      ends_met : AreMet (end_of ys).1 (end_of xs).1
      ends_met =
          subst (λ t. AreMet t (end_of xs).1) (sym (pointers_joined (pointed_of ys)))
          (subst (AreMet (join_all (map read_of (pointed_of ys)))) (sym (pointers_joined (pointed_of xs))) pointers_met_same)

      pub object_moved : AreShown (object_of owner next T id fields ys) (object_of owner next T id fields xs)
      object_moved = record {
        shown = fields_put (end_of ys) (asked_of ys) ∙ members_same (end_of ys).0 ∙ ap (λ (e : Shown). put_pairs e (map pair_of (asked_of xs))) ends_same ∙ sym (fields_put (end_of xs) (asked_of xs));
        met = met-trans _ _ _ (met-sym _ _ (fields_joined (end_of ys) (asked_of ys)))
            (met-trans _ _ _ (met-join _ _ _ _ fields_met_same ends_met) (fields_joined (end_of xs) (asked_of xs)));
      }
