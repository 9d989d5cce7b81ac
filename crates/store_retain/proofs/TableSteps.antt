-- Ways that are put, and parts that are put behind others.
use Rattle.std.proofs.Common.{◌≡◌, ℕ, zero, suc, ◌+◌, ◌<◌, ◌≤◌, Bool, true, false, cond, ◌&&◌, List, [], ◌∷◌, ◌++◌, drop, length, get_or, Option, Some, None, refl, sym, ap, ◌∙◌, subst, append_assoc, arith}
use Rattle.std.proofs.lemmas.List.{append-nil}
use Rattle.std.specs.List.{AllZip}
use Rattle.plan_ir.specs.gql_ast.Value.{Val}
use Rattle.plan_ir.specs.gql_plain.declared.ids.Conn.{Conn}
use Rattle.plan_ir.specs.Normal.{Normal, depth, done, guarded}
use Rattle.plan_ir.specs.NormalMeaning.{Plan, ask_step, below_step, collect_steps, guard_passes, object_form, type_passes, typename_ask}
use Rattle.plan_ir.proofs.NormalLeadLaws.{again_at, lead_at}
use Rattle.plan_ir.specs.NormalLeads.{AreAgain, lead_of, leads_of}
use Rattle.plan_ir.specs.NormalView.{step_before, step_of, steps_of}
use Rattle.plan_ir.specs.declared.guard.Guard.{Guard}
use Rattle.plan_ir.specs.declared.normal.NormalPlan.{NormalPlan}
use Rattle.plan_ir.specs.declared.normal.NormalStep.{NormalStep}
use Rattle.plan_ir.specs.declared.normal.NormalStep.TheVariants as N
use Rattle.plan_ir.specs.schema_types.Environments.{Values}
use Rattle.plan_ir.specs.store_model.Items.{Asked, Below, Item, asked, pointed, asked_of, handle_of, key_of, leaf}
use Rattle.plan_ir.specs.store_model.Reaches.{types_of}
use Rattle.plan_ir.specs.store_record.Keys.{Text}
use Rattle.store_retain.proofs.Follow.{drop_at}
use Rattle.store_retain.proofs.Reaching.{zip_append}
use Rattle.store_retain.specs.Stands.{Adds, Begins, IsAsked, IsLead, IsWayOf, StandsFor, asked_by}
use Rattle.store_retain.specs.Ways.{Parts, Way, is_on, ways_in, ways_on}

-- ---- lists that begin with others

module _ {X : Type 0} where
  pub begins_self : (xs : List X) → Begins xs xs
  begins_self [] = tt
  begins_self (x ∷ xs) = (refl, begins_self xs)

  pub begins_more : (xs ys : List X) → Begins xs (xs ++ ys)
  begins_more [] ys = tt
  begins_more (x ∷ xs) ys = (refl, begins_more xs ys)

  pub begins_then : (xs ys zs : List X) → Begins xs ys → Begins ys zs → Begins xs zs
  begins_then [] ys zs h k = tt
  begins_then (x ∷ xs) [] zs h k = absurd h
  begins_then (x ∷ xs) (y ∷ ys) [] h k = absurd k
  begins_then (x ∷ xs) (y ∷ ys) (z ∷ zs) h k = (h.0 ∙ k.0, begins_then xs ys zs h.1 k.1)

  -- what stands behind a list keeps its place
  pub behind : (xs ys : List X) (y d : X) → Begins (xs ++ y ∷ []) ys → get_or ys (length xs) d ≡ y
  behind [] [] y d h = absurd h
  behind [] (z ∷ zs) y d h = sym h.0
  behind (x ∷ xs) [] y d h = absurd h
  behind (x ∷ xs) (z ∷ zs) y d h = behind xs zs y d h.1

-- the part without a way stays
pub nothing_there : (ps : Parts) → Begins ([] ∷ []) ps → ways_in ps 0 ≡ []
nothing_there [] h = absurd h
nothing_there (x ∷ ps) h = sym h.0

-- it stands for what asks nothing
pub stands_nothing : (ps : Parts) (n : ℕ) (env : Values) → Begins ([] ∷ []) ps → StandsFor ps n 0 (record { environment = env; steps = done })
stands_nothing ps zero env h = tt
stands_nothing ps (suc n) env h = λ T. subst (λ ws. AllZip (IsWayOf (StandsFor ps n)) [] (ways_on T ws)) (sym (nothing_there ps h)) tt

-- ---- ways that are put

pub on_append : (T : Text) (xs ys : List Way) → ways_on T (xs ++ ys) ≡ ways_on T xs ++ ways_on T ys
on_append T [] ys = refl
on_append T (x ∷ xs) ys = at (on_append T xs ys) (is_on x.on T)
  where
    at : ways_on T (xs ++ ys) ≡ ways_on T xs ++ ways_on T ys → (b : Bool) → cond b (x ∷ ways_on T (xs ++ ys)) (ways_on T (xs ++ ys)) ≡ cond b (x ∷ ways_on T xs) (ways_on T xs) ++ ways_on T ys
    at rest true = ap (λ ws. x ∷ ws) rest
    at rest false = rest

-- one way
pub adds_one : (ps : Parts) (old : List Way) (w : Way) (on : Option (List Text)) (a : Asked Plan) → w.on ≡ on → IsAsked a.ask w → ((later : Parts) → Begins ps later → (n : ℕ) → StandsFor later n w.below a.part)
    → Adds ps old (old ++ w ∷ []) (λ T. cond (is_on on T) (a ∷ []) [])
adds_one ps old w on a same is below later begins n T before all =
    subst (λ ws. AllZip (IsWayOf (StandsFor later n)) (before ++ cond (is_on on T) (a ∷ []) []) ws) (sym (on_append T old (w ∷ [])))
    (zip_append (IsWayOf (StandsFor later n)) before (ways_on T old) (cond (is_on on T) (a ∷ []) []) (ways_on T (w ∷ [])) all
    (subst (λ o. AllZip (IsWayOf (StandsFor later n)) (cond (is_on on T) (a ∷ []) []) (cond (is_on o T) (w ∷ []) [])) (sym same) (at (is_on on T))))
  where
    at : (b : Bool) → AllZip (IsWayOf (StandsFor later n)) (cond b (a ∷ []) []) (cond b (w ∷ []) [])
    at true = ((is, below later begins n), tt)
    at false = tt

-- none
pub adds_none : (ps : Parts) (old : List Way) (asks : Text → List (Asked Plan)) → ((T : Text) → asks T ≡ []) → Adds ps old old asks
adds_none ps old asks none later begins n T before all =
    subst (λ qs. AllZip (IsWayOf (StandsFor later n)) qs (ways_on T old)) (sym (ap (λ qs. before ++ qs) (none T) ∙ append-nil before)) all

-- others of the same
pub adds_same : (ps : Parts) (old new : List Way) (asks more : Text → List (Asked Plan)) → ((T : Text) → asks T ≡ more T) → Adds ps old new asks → Adds ps old new more
adds_same ps old new asks more same adds later begins n T before all = subst (λ qs. AllZip (IsWayOf (StandsFor later n)) (before ++ qs) (ways_on T new)) (same T) (adds later begins n T before all)

pub adds_then : (first second : Parts) (old mid new : List Way) (asks more : Text → List (Asked Plan)) → Begins first second → Adds first old mid asks → Adds second mid new more → Adds second old new (λ T. asks T ++ more T)
adds_then first second old mid new asks more grows f g later begins n T before all =
    subst (λ qs. AllZip (IsWayOf (StandsFor later n)) qs (ways_on T new)) (append_assoc before (asks T) (more T))
    (g later begins n T (before ++ asks T) (f later (begins_then first second later grows begins) n T before all))

-- ---- steps

asked_append : (xs ys : List (Item Plan)) → asked_of (xs ++ ys) ≡ asked_of xs ++ asked_of ys
asked_append [] ys = refl
asked_append (asked a ∷ xs) ys = ap (λ more. a ∷ more) (asked_append xs ys)
asked_append (pointed p ∷ xs) ys = asked_append xs ys

collect_before : (env : Values) (T : Text) (x : NormalStep) (t : Normal) → collect_steps env T (step_before x t) ≡ collect_steps env T (step_of x) ++ collect_steps env T t
collect_before env T (N.Typename r) t = refl
collect_before env T (N.Leaf r n xs) t = refl
collect_before env T (N.Object r n xs m ts is o c child) t = refl
collect_before env T (N.Guarded g child) t = ap (λ (xs : List (Item Plan)). xs ++ collect_steps env T t) (sym (append-nil (cond (guard_passes env T g) (collect_steps env T child.steps) [])))

both_taken : (b : Bool) (xs ys zs : List (Asked Plan)) → zs ≡ xs ++ ys → cond b xs [] ++ cond b ys [] ≡ cond b zs []
both_taken true xs ys zs e = sym e
both_taken false xs ys zs e = refl

pub asked_before : (on : Option (List Text)) (env : Values) (x : NormalStep) (t : Normal) (T : Text) → asked_by on env (step_of x) T ++ asked_by on env t T ≡ asked_by on env (step_before x t) T
asked_before on env x t T =
    both_taken (is_on on T) (asked_of (collect_steps env T (step_of x))) (asked_of (collect_steps env T t)) (asked_of (collect_steps env T (step_before x t)))
    (ap asked_of (collect_before env T x t) ∙ asked_append (collect_steps env T (step_of x)) (collect_steps env T t))

-- what is left, after it all
abbrev pub Leaves : Parts → Option (List Text) → Values → List Way → List Way → Normal → Normal → Type 0
Leaves ps on env start now left whole = (last : Parts) (end : List Way) → Begins ps last → Adds last now end (asked_by on env left) → Adds last start end (asked_by on env whole)

-- one more step
pub steps_left : (on : Option (List Text)) (env : Values) (xs : List NormalStep) (i : ℕ) (x : NormalStep) (first second : Parts) (start old new : List Way) (whole : Normal) → i < length xs → x ≡ get_or xs i x
    → Begins first second → Adds second old new (asked_by on env (step_of x)) → Leaves first on env start old (steps_of (drop i xs)) whole → Leaves second on env start new (steps_of (drop (i + 1) xs)) whole
steps_left on env xs i x first second start old new whole within is grows here left last end begins rest =
    let more : Normal = steps_of (drop (i + 1) xs) in
    left last end (begins_then first second last grows begins)
    (adds_same last old end (λ T. asked_by on env (step_of x) T ++ asked_by on env more T) (asked_by on env (steps_of (drop i xs)))
    (λ T. asked_before on env x more T ∙ ap (λ (ys : List NormalStep). asked_by on env (steps_of ys) T) (sym (drop_at xs i x x within is)))
    (adds_then second last old new end (asked_by on env (step_of x)) (asked_by on env more) begins here rest))

-- ---- steps of one way

form_types : (m : Bool) (b : Below) → types_of (object_form m b) ≡ b.types
form_types true b = refl
form_types false b = refl

-- what stands below an object is less deep than it
pub object_deep : (x : NormalStep) (r n : Text) (xs : List (Text × Val)) (m : Bool) (ts is : List Text) (o : Bool) (c : Option Conn) (child : NormalPlan) → x ≡ N.Object r n xs m ts is o c child
    → depth child.steps < depth (step_of x)
object_deep x r n xs m ts is o c child e =
    let deep : depth (step_of x) ≡ depth child.steps + 2 = ap (λ (y : NormalStep). depth (step_of y)) e ∙ omega arith in
    omega (arith, deep)

module _ (ps : Parts) (old new : List Way) (on : Option (List Text)) (env : Values) (x : NormalStep) (w : Way) (nothing : Begins ([] ∷ []) ps) (pushed : new ≡ old ++ w ∷ []) where
  added : (a : Asked Plan) → w.on ≡ on → IsAsked a.ask w → ((later : Parts) → Begins ps later → (n : ℕ) → StandsFor later n w.below a.part) → ((T : Text) → cond (is_on on T) (a ∷ []) [] ≡ asked_by on env (step_of x) T)
      → Adds ps old new (asked_by on env (step_of x))
  added a same is stands asks =
      subst (λ ws. Adds ps old ws (asked_by on env (step_of x))) (sym pushed)
      (adds_same ps old (old ++ w ∷ []) (λ T. cond (is_on on T) (a ∷ []) []) (asked_by on env (step_of x)) asks (adds_one ps old w on a same is stands))

  pub typename_adds : (r : Text) → x ≡ N.Typename r → w ≡ record { on = on; response = r; key = key_of (typename_ask r); handle = None; types = []; below = 0 } → Adds ps old new (asked_by on env (step_of x))
  typename_adds r e is =
      added (record { ask = typename_ask r; part = record { environment = env; steps = done } }) (ap (λ (v : Way). v.on) is)
      (record { response = ap (λ (v : Way). v.response) is; key = ap (λ (v : Way). v.key) is; handle = ap (λ (v : Way). v.handle) is; types = ap (λ (v : Way). v.types) is })
      (λ later begins n. subst (λ k. StandsFor later n k (record { environment = env; steps = done })) (sym (ap (λ (v : Way). v.below) is)) (stands_nothing later n env (begins_then ([] ∷ []) ps later nothing begins)))
      (λ T. ap (λ (y : NormalStep). asked_by on env (step_of y) T) (sym e))

  pub leaf_adds : (r n : Text) (xs : List (Text × Val)) (none : List Text) → x ≡ N.Leaf r n xs → none ≡ []
      → w ≡ record { on = on; response = r; key = key_of (ask_step env r n xs None leaf); handle = handle_of (ask_step env r n xs None leaf); types = none; below = 0 } → Adds ps old new (asked_by on env (step_of x))
  leaf_adds r n xs none e empty is =
      added (record { ask = ask_step env r n xs None leaf; part = record { environment = env; steps = done } }) (ap (λ (v : Way). v.on) is)
      (record { response = ap (λ (v : Way). v.response) is; key = ap (λ (v : Way). v.key) is; handle = ap (λ (v : Way). v.handle) is; types = ap (λ (v : Way). v.types) is ∙ empty })
      (λ later begins k. subst (λ i. StandsFor later k i (record { environment = env; steps = done })) (sym (ap (λ (v : Way). v.below) is)) (stands_nothing later k env (begins_then ([] ∷ []) ps later nothing begins)))
      (λ T. ap (λ (y : NormalStep). asked_by on env (step_of y) T) (sym e))

  pub object_adds : (r n : Text) (xs : List (Text × Val)) (m : Bool) (ts is : List Text) (o : Bool) (c : Option Conn) (child : NormalPlan) (copied : List Text) (below : ℕ) → x ≡ N.Object r n xs m ts is o c child → copied ≡ ts
      → w ≡ record { on = on; response = r; key = key_of (ask_step env r n xs c leaf); handle = handle_of (ask_step env r n xs c leaf); types = copied; below = below }
      → ((later : Parts) → Begins ps later → (k : ℕ) → StandsFor later k below (record { environment = env; steps = child.steps })) → Adds ps old new (asked_by on env (step_of x))
  object_adds r n xs m ts is o c child copied below e same way stands =
      added (record { ask = ask_step env r n xs c (object_form m (below_step ts is o)); part = record { environment = env; steps = child.steps } }) (ap (λ (v : Way). v.on) way)
      (record {
        response = ap (λ (v : Way). v.response) way;
        key = ap (λ (v : Way). v.key) way;
        handle = ap (λ (v : Way). v.handle) way;
        types = ap (λ (v : Way). v.types) way ∙ same ∙ sym (form_types m (below_step ts is o));
      })
      (λ later begins k. subst (λ i. StandsFor later k i (record { environment = env; steps = child.steps })) (sym (ap (λ (v : Way). v.below) way)) (stands later begins k))
      (λ T. ap (λ (y : NormalStep). asked_by on env (step_of y) T) (sym e))

-- ---- guards

same_test : (o : Option (List Text)) (T : Text) → is_on o T ≡ type_passes o T
same_test None T = refl
same_test (Some ts) T = refl

pub behind_guard : (o t l p : Bool) (xs : List (Item Plan)) → p ≡ (t && l) → l ≡ true → cond (o && t) (asked_of xs) [] ≡ cond o (asked_of (cond p xs [] ++ [])) []
behind_guard true true l p xs e is = sym (ap asked_of (append-nil xs)) ∙ ap (λ b. asked_of (cond b xs [] ++ [])) (sym (e ∙ is))
behind_guard true false l p xs e is = ap (λ b. asked_of (cond b xs [] ++ [])) (sym e)
behind_guard false t l p xs e is = refl

and_none : (t l : Bool) → l ≡ false → (t && l) ≡ false
and_none true l e = e
and_none false l e = refl

pub guard_stops : (o t l p : Bool) (xs : List (Item Plan)) → p ≡ (t && l) → l ≡ false → cond o (asked_of (cond p xs [] ++ [])) [] ≡ []
guard_stops true t l p xs e is = ap (λ b. asked_of (cond b xs [] ++ [])) (e ∙ and_none t l is)
guard_stops false t l p xs e is = refl

-- steps behind a guard that may let them
pub guarded_asks : (on narrowed : Option (List Text)) (env : Values) (g : Guard) (child : Normal) (lets : Bool) → ((T : Text) → guard_passes env T g ≡ (type_passes g.types T && lets)) → lets ≡ true
    → ((T : Text) → is_on narrowed T ≡ (is_on on T && is_on g.types T)) → (T : Text) → asked_by narrowed env child T ≡ asked_by on env (guarded g child done) T
guarded_asks on narrowed env g child lets passes is narrow T =
    ap (λ b. cond b (asked_of (collect_steps env T child)) []) (narrow T ∙ ap (λ b. is_on on T && b) (same_test g.types T))
    ∙ behind_guard (is_on on T) (type_passes g.types T) lets (guard_passes env T g) (collect_steps env T child) (passes T) is

pub guarded_none : (on : Option (List Text)) (env : Values) (g : Guard) (child : Normal) (lets : Bool) → ((T : Text) → guard_passes env T g ≡ (type_passes g.types T && lets)) → lets ≡ false
    → (T : Text) → asked_by on env (guarded g child done) T ≡ []
guarded_none on env g child lets passes is T = guard_stops (is_on on T) (type_passes g.types T) lets (guard_passes env T g) (collect_steps env T child) (passes T) is

-- ---- parts that are put

begins_one : (mid new : Parts) (ws : List Way) → new ≡ mid ++ ws ∷ [] → Begins mid new
begins_one mid new ws e = subst (λ ps. Begins mid ps) (sym e) (begins_more mid (ws ∷ []))

pub grows_one : (old mid new : Parts) (ws : List Way) → new ≡ mid ++ ws ∷ [] → Begins old mid → Begins old new
grows_one old mid new ws e h = begins_then old mid new h (begins_one mid new ws e)

-- the new part stands for its plan
pub stands_new : (mid new : Parts) (ws : List Way) (number : ℕ) (env : Values) (steps : Normal) → new ≡ mid ++ ws ∷ [] → number ≡ length mid → Adds mid [] ws (asked_by None env steps)
    → (later : Parts) → Begins new later → (n : ℕ) → StandsFor later n number (record { environment = env; steps = steps })
stands_new mid new ws number env steps e at adds later begins zero = tt
stands_new mid new ws number env steps e at adds later begins (suc n) = λ T.
    let there : ways_in later number ≡ ws = ap (ways_in later) at ∙ behind mid later ws [] (subst (λ ps. Begins ps later) e begins) in
    subst (λ xs. AllZip (IsWayOf (StandsFor later n)) (asked_of (collect_steps env T steps)) (ways_on T xs)) (sym there)
    (adds later (begins_then mid new later (begins_one mid new ws e) begins) n T [] tt)

-- ---- the ends of loops

drop_none : {X : Type 0} (xs : List X) (i : ℕ) → length xs ≤ i → drop i xs ≡ []
drop_none [] zero h = refl
drop_none [] (suc i) h = refl
drop_none (x ∷ xs) zero h = absurd (omega (arith, h))
drop_none (x ∷ xs) (suc i) h = drop_none xs i (omega (arith, h))

cond_nothing : (b : Bool) → cond {A = List (Asked Plan)} b [] [] ≡ []
cond_nothing true = refl
cond_nothing false = refl

-- at first all is left
pub steps_first : (ps : Parts) (on : Option (List Text)) (env : Values) (start : List Way) (left whole : Normal) → left ≡ whole → Leaves ps on env start start left whole
steps_first ps on env start left whole same last end begins adds = subst (λ t. Adds last start end (asked_by on env t)) same adds

-- at last nothing is left
pub steps_end : (ps : Parts) (on : Option (List Text)) (env : Values) (xs : List NormalStep) (i : ℕ) (start now : List Way) (whole : Normal) → length xs ≤ i
    → Leaves ps on env start now (steps_of (drop i xs)) whole → Adds ps start now (asked_by on env whole)
steps_end ps on env xs i start now whole h left =
    left ps now (begins_self ps) (adds_none ps now (asked_by on env (steps_of (drop i xs))) (λ T. ap (λ (ys : List NormalStep). asked_by on env (steps_of ys) T) (drop_none xs i h) ∙ cond_nothing (is_on on T)))

-- ---- what is known of what steps lead to

pub lead_of_part : (ps : Parts) (env : Values) (k : ℕ) (child : Normal) (lead : Option Normal) → lead ≡ Some child → ((later : Parts) → Begins ps later → (n : ℕ) → StandsFor later n k (record { environment = env; steps = child }))
    → IsLead ps env (Some k) lead
lead_of_part ps env k child lead is stands = λ later begins n steps e.
    let same : child ≡ steps = some_same child steps (sym is ∙ e) in
    subst (λ (s : Normal). StandsFor later n k (record { environment = env; steps = s })) same (stands later begins n)
  where
    some_same : (a b : Normal) → Some a ≡ Some b → a ≡ b
    some_same a b e = cc e

lead_again : (ps : Parts) (env : Values) (b : Bool) (last : Option ℕ) (before here : Option Normal) → (b ≡ true → before ≡ here) → IsLead ps env last before → IsLead ps env (cond b last None) here
lead_again ps env true last before here same h = subst (λ q. IsLead ps env last q) (same refl) h
lead_again ps env false last before here same h = tt

lead_here : (xs : List NormalStep) (whole : Normal) (i : ℕ) (x : NormalStep) → i < length xs → x ≡ get_or xs i x → steps_of xs ≡ whole → get_or (leads_of whole) i None ≡ lead_of (step_of x)
lead_here xs whole i x h is e =
    ap (λ (s : Normal). get_or (leads_of s) i None) (sym e) ∙ lead_at xs i x h ∙ sym (ap (λ (y : NormalStep). lead_of (step_of y)) is)

-- what is known of the step at a place, where it leads to the same as the one before
pub known_here : (ps : Parts) (env : Values) (xs : List NormalStep) (bs : List Bool) (whole : Normal) (i : ℕ) (x : NormalStep) (last k : Option ℕ) → i < length xs → x ≡ get_or xs i x → steps_of xs ≡ whole
    → AreAgain None bs (leads_of whole) → IsLead ps env last (get_or (None ∷ leads_of whole) i None) → k ≡ cond (get_or bs i false) last None → IsLead ps env k (lead_of (step_of x))
known_here ps env xs bs whole i x last k h is e marks known made =
    let same : get_or bs i false ≡ true → get_or (None ∷ leads_of whole) i None ≡ lead_of (step_of x) =
    λ yes. again_at None bs (leads_of whole) i marks yes ∙ lead_here xs whole i x h is e in
    subst (λ q. IsLead ps env q (lead_of (step_of x))) (sym made) (lead_again ps env (get_or bs i false) last (get_or (None ∷ leads_of whole) i None) (lead_of (step_of x)) same known)

pub known_next : (ps : Parts) (env : Values) (xs : List NormalStep) (whole : Normal) (i : ℕ) (x : NormalStep) (k : Option ℕ) → i < length xs → x ≡ get_or xs i x → steps_of xs ≡ whole
    → IsLead ps env k (lead_of (step_of x)) → IsLead ps env k (get_or (None ∷ leads_of whole) (i + 1) None)
known_next ps env xs whole i x k h is e known =
    let one : suc i ≡ i + 1 = omega arith in
    subst (λ j. IsLead ps env k (get_or (None ∷ leads_of whole) j None)) one (subst (λ q. IsLead ps env k q) (sym (lead_here xs whole i x h is e)) known)

-- a step alone
pub lead_alone : (xs : List NormalStep) (x : NormalStep) (whole : Normal) → length xs ≡ 1 → x ≡ get_or xs 0 x → steps_of xs ≡ whole → step_of x ≡ whole
lead_alone [] x whole h is e = absurd (omega (arith, h))
lead_alone (y ∷ []) x whole h is e = ap (λ (z : NormalStep). step_of z) is ∙ e
lead_alone (y ∷ z ∷ xs) x whole h is e = absurd (omega (arith, h))
