-- A way is put behind those of its response key, or as a new road.
use Rattle.std.proofs.Common.{◌≡◌, ℕ, zero, suc, ◌+◌, ◌<◌, Bool, true, false, cond, List, [], ◌∷◌, ◌++◌, map, drop, set, length, get_or, Option, Some, None, option_map, bytes_eq, refl, ap, sym, ◌∙◌, subst, arith}
use Rattle.std.proofs.lemmas.List.{length-map, map-append}
use Rattle.plan_ir.proofs.gql_graph_laws.TextSteps.{same_text}
use Rattle.plan_ir.proofs.schema_tables_laws.Finding.{suc_of}
use Rattle.plan_ir.specs.store_record.Keys.{Text}
use Rattle.store_retain.proofs.Follow.{drop_at}
use Rattle.store_retain.specs.RoadView.{place_of, put_at, road_of, with_other}
use Rattle.store_retain.specs.TrailView.{way_of}
use Rattle.store_retain.specs.Ways.{Parts, Road, Way, is_on, roads_onto, ways_in, ways_of, ways_on, with_way}
use Rattle.store_retain.specs.declared.roads.Road.{Road as Kept}
use Rattle.store_retain.specs.declared.trail.Trail.{Trail}

none_of : (o : Option ℕ) → option_map suc o ≡ None → o ≡ None
none_of None e = refl
none_of (Some k) e = cc

abbrev or_place : Option ℕ → Bool → ℕ → Option ℕ
or_place (Some i) b n = Some i
or_place None b n = cond b (Some n) None

or_place-suc : (o : Option ℕ) (b : Bool) (k : ℕ) → option_map suc (or_place o b k) ≡ or_place (option_map suc o) b (suc k)
or_place-suc None true k = refl
or_place-suc None false k = refl
or_place-suc (Some i) b k = refl

or_place-none : (o : Option ℕ) (k : ℕ) → o ≡ or_place o false k
or_place-none None k = refl
or_place-none (Some i) k = refl

abbrev pub alone : Way → Road
alone w = record { response = w.response; ways = w ∷ [] }

-- ---- a key that has a road

pub put_there : (rs : List Road) (w : Way) (i : ℕ) → place_of rs w.response ≡ Some i → with_way rs w ≡ put_at i rs w
put_there [] w i e = cc
put_there (r ∷ rs) w i e = on (λ k. put_there rs w k) (bytes_eq r.response w.response) e
  where
    on : ((k : ℕ) → place_of rs w.response ≡ Some k → with_way rs w ≡ put_at k rs w) → (b : Bool)
        → cond b (Some 0) (option_map suc (place_of rs w.response)) ≡ Some i → cond b (with_other r w ∷ rs) (r ∷ with_way rs w) ≡ put_at i (r ∷ rs) w
    on rest true e =
        let first : 0 ≡ i = cc in
        subst (λ k. with_other r w ∷ rs ≡ put_at k (r ∷ rs) w) first refl
    on rest false e =
        let later = suc_of (place_of rs w.response) i e in
        subst (λ k. r ∷ with_way rs w ≡ put_at k (r ∷ rs) w) later.2 (ap (λ hs. r ∷ hs) (rest later.0 later.1))

pub place_within : (rs : List Road) (n : Text) (i : ℕ) → place_of rs n ≡ Some i → i < length rs
place_within [] n i e = cc
place_within (r ∷ rs) n i e = on (λ k. place_within rs n k) (bytes_eq r.response n) e
  where
    on : ((k : ℕ) → place_of rs n ≡ Some k → k < length rs) → (b : Bool) → cond b (Some 0) (option_map suc (place_of rs n)) ≡ Some i → i < suc (length rs)
    on rest true e =
        let first : 0 ≡ i = cc in
        omega (arith, first)
    on rest false e =
        let later = suc_of (place_of rs n) i e in
        let below : later.0 < length rs = rest later.0 later.1 in
        omega (arith, below, later.2)

-- the places stay
pub place_put : (i : ℕ) (rs : List Road) (w : Way) (n : Text) → place_of (put_at i rs w) n ≡ place_of rs n
place_put i [] w n = refl
place_put zero (r ∷ rs) w n = refl
place_put (suc i) (r ∷ rs) w n = ap (λ (o : Option ℕ). cond (bytes_eq r.response n) (Some 0) (option_map suc o)) (place_put i rs w n)

-- ---- a key that has none

pub put_new : (rs : List Road) (w : Way) → place_of rs w.response ≡ None → with_way rs w ≡ rs ++ alone w ∷ []
put_new [] w e = refl
put_new (r ∷ rs) w e = on (put_new rs w) (bytes_eq r.response w.response) e
  where
    on : (place_of rs w.response ≡ None → with_way rs w ≡ rs ++ alone w ∷ []) → (b : Bool)
        → cond b (Some 0) (option_map suc (place_of rs w.response)) ≡ None → cond b (with_other r w ∷ rs) (r ∷ with_way rs w) ≡ r ∷ rs ++ alone w ∷ []
    on rest true e = cc
    on rest false e = ap (λ hs. r ∷ hs) (rest (none_of (place_of rs w.response) e))

place_more : (rs : List Road) (w : Way) (n : Text) → place_of (rs ++ alone w ∷ []) n ≡ or_place (place_of rs n) (bytes_eq w.response n) (length rs)
place_more [] w n = refl
place_more (r ∷ rs) w n = on (place_more rs w n) (bytes_eq r.response n)
  where
    on : place_of (rs ++ alone w ∷ []) n ≡ or_place (place_of rs n) (bytes_eq w.response n) (length rs) → (b : Bool)
        → cond b (Some 0) (option_map suc (place_of (rs ++ alone w ∷ []) n)) ≡ or_place (cond b (Some 0) (option_map suc (place_of rs n))) (bytes_eq w.response n) (suc (length rs))
    on rest true = refl
    on rest false = ap (option_map suc) rest ∙ or_place-suc (place_of rs n) (bytes_eq w.response n) (length rs)

-- the new road has the place behind the others
pub place_new : (rs : List Road) (w : Way) (n : Text) → place_of rs w.response ≡ None
    → cond (bytes_eq w.response n) (Some (length rs)) (place_of rs n) ≡ place_of (rs ++ alone w ∷ []) n
place_new rs w n e = on (bytes_eq w.response n) refl ∙ sym (place_more rs w n)
  where
    on : (b : Bool) → bytes_eq w.response n ≡ b → cond b (Some (length rs)) (place_of rs n) ≡ or_place (place_of rs n) b (length rs)
    on true h = ap (λ o. or_place o true (length rs)) (sym (ap (place_of rs) (sym (same_text w.response n h)) ∙ e))
    on false h = or_place-none (place_of rs n) (length rs)

-- ---- one after another

pub roads-append : (rs : List Road) (xs ys : List Way) → roads_onto rs (xs ++ ys) ≡ roads_onto (roads_onto rs xs) ys
roads-append rs [] ys = refl
roads-append rs (x ∷ xs) ys = roads-append (with_way rs x) xs ys

on_next : (T : Text) (w : Way) (ws : List Way) → ways_on T (w ∷ ws) ≡ ways_on T (w ∷ []) ++ ways_on T ws
on_next T w ws = at (is_on w.on T)
  where
    at : (b : Bool) → cond b (w ∷ ways_on T ws) (ways_on T ws) ≡ cond b (w ∷ []) [] ++ ways_on T ws
    at true = refl
    at false = refl

-- one more trail
pub trails_next : (T : Text) (ts : List Trail) (i : ℕ) (d t : Trail) (old new whole : List Road) → i < length ts → t ≡ get_or ts i d → new ≡ roads_onto old (ways_on T (way_of t ∷ []))
    → roads_onto old (ways_on T (map way_of (drop i ts))) ≡ whole → roads_onto new (ways_on T (map way_of (drop (i + 1) ts))) ≡ whole
trails_next T ts i d t old new whole h is e w =
    let rest : List Way = map way_of (drop (i + 1) ts) in
    ap (λ rs. roads_onto rs (ways_on T rest)) e
    ∙ sym (roads-append old (ways_on T (way_of t ∷ [])) (ways_on T rest))
    ∙ ap (roads_onto old) (sym (on_next T (way_of t) rest))
    ∙ sym (ap (λ (us : List Trail). roads_onto old (ways_on T (map way_of us))) (drop_at ts i d t h is)) ∙ w

-- one more part
pub numbers_next : (ps : Parts) (T : Text) (ks : List ℕ) (i d k : ℕ) (old new whole : List Road) → i < length ks → k ≡ get_or ks i d → new ≡ roads_onto old (ways_on T (ways_in ps k))
    → roads_onto old (ways_of ps T (drop i ks)) ≡ whole → roads_onto new (ways_of ps T (drop (i + 1) ks)) ≡ whole
numbers_next ps T ks i d k old new whole h is e w =
    ap (λ rs. roads_onto rs (ways_of ps T (drop (i + 1) ks))) e
    ∙ sym (roads-append old (ways_on T (ways_in ps k)) (ways_of ps T (drop (i + 1) ks)))
    ∙ sym (ap (λ us. roads_onto old (ways_of ps T us)) (drop_at ks i d k h is)) ∙ w

-- ---- roads as they are kept

pub put_behind_is : (rs : List Kept) (i : ℕ) (r s : Kept) (w : Way) → i < length rs → r ≡ get_or rs i r → road_of s ≡ with_other (road_of r) w → map road_of (set rs i s) ≡ put_at i (map road_of rs) w
put_behind_is [] i r s w low is e = absurd (omega arith)
put_behind_is (x ∷ rs) zero r s w low is e = ap (λ (y : Road). y ∷ map road_of rs) (e ∙ ap (λ (y : Kept). with_other (road_of y) w) is)
put_behind_is (x ∷ rs) (suc i) r s w low is e = ap (λ ys. road_of x ∷ ys) (put_behind_is rs i r s w (omega arith) is e)

pub placed_at : (rs : List Road) (k r : Text) (found there : Option ℕ) → k ≡ r → found ≡ place_of rs k → found ≡ there → place_of rs r ≡ there
placed_at rs k r found there e f g = ap (place_of rs) (sym e) ∙ sym f ∙ g

module _ (rs all : List Kept) (one : Kept) (w : Way) (is : road_of one ≡ alone w) (pushed : all ≡ rs ++ one ∷ []) (unplaced : place_of (map road_of rs) w.response ≡ None) where
  one_more : map road_of all ≡ map road_of rs ++ alone w ∷ []
  one_more = ap (map road_of) pushed ∙ map-append road_of rs (one ∷ []) ∙ ap (λ r. map road_of rs ++ r ∷ []) is

  pub put_new_is : map road_of all ≡ with_way (map road_of rs) w
  put_new_is = one_more ∙ sym (put_new (map road_of rs) w unplaced)

  -- its place is known
  pub placed_new : (k n : Text) (count : ℕ) (old new : Option ℕ) → k ≡ w.response → count ≡ length rs → old ≡ place_of (map road_of rs) n → new ≡ cond (bytes_eq k n) (Some count) old
      → new ≡ place_of (map road_of all) n
  placed_new k n count old new key counted was is_new =
      let whole : count ≡ length (map road_of rs) = counted ∙ sym (length-map rs road_of) in
      is_new
      ∙ (λ i. cond (bytes_eq (key i) n) (Some (whole i)) (was i))
      ∙ place_new (map road_of rs) w n unplaced
      ∙ ap (λ (hs : List Road). place_of hs n) (sym one_more)
