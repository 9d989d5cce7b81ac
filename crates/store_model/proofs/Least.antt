-- What ids lead to: it is closed, and the least of the closed sets.
use Rattle.std.proofs.Common.{◌≡◌, ℕ, zero, suc, ◌≤◌, Bool, true, false, true≢false, cond, ◌||◌, List, [], ◌∷◌, ◌++◌, length, refl, sym, ap, subst, ◌∙◌, arith, bytes_eq}
use Rattle.std.proofs.lemmas.Slice.Eq.{bytes_eq-Decides}
use Rattle.std.specs.List.{AllByRecursion}
use Rattle.store_record.specs.gql_plain.Order.{has_text}
use Rattle.store_record.specs.Keys.{Text}
use Rattle.store_model.specs.Leads.{Live, Picked, none, picked, beside, pick, of_picked, grow}

abbrev pub Each : {X : Type 0} → (X → Type 0) → List X → Type 0
Each P xs = AllByRecursion P xs

abbrev pub In : Text → List Text → Type 0
In id ids = has_text ids id ≡ true

-- ---- members of a list

or_left : (a b : Bool) → a ≡ true → (a || b) ≡ true
or_left true b h = refl
or_left false b h = absurd (true≢false (sym h))

pub or_right : (a b : Bool) → b ≡ true → (a || b) ≡ true
or_right true b h = refl
or_right false b h = h

pub in_left : (xs ys : List Text) (id : Text) → In id xs → In id (xs ++ ys)
in_left [] ys id h = absurd (true≢false (sym h))
in_left (x ∷ xs) ys id h =
    elim (bytes_eq x id) as (λ b. (b || has_text xs id) ≡ true → (b || has_text (xs ++ ys) id) ≡ true) [ true ↦ λ _. refl | false ↦ in_left xs ys id ] h

pub in_right : (xs ys : List Text) (id : Text) → In id ys → In id (xs ++ ys)
in_right [] ys id h = h
in_right (x ∷ xs) ys id h = or_right (bytes_eq x id) (has_text (xs ++ ys) id) (in_right xs ys id h)

pub in_first : (id : Text) (ids : List Text) → In id (id ∷ ids)
in_first id ids = or_left (bytes_eq id id) (has_text ids id) ((bytes_eq-Decides id id).1 refl)

pub in_rest : (x id : Text) (ids : List Text) → In id ids → In id (x ∷ ids)
in_rest x id ids h = or_right (bytes_eq x id) (has_text ids id) h

-- what holds of each member holds of one
pub of_member : (P : Text → Type 0) (ids : List Text) (id : Text) → Each P ids → In id ids → P id
of_member P [] id all h = absurd (true≢false (sym h))
of_member P (x ∷ ids) id all h =
    elim (bytes_eq x id) as (λ b. bytes_eq x id ≡ b → (b || has_text ids id) ≡ true → P id) [
      | true ↦ λ e _. subst P ((bytes_eq-Decides x id).0 e) all.0
      | false ↦ λ _ later. of_member P ids id all.1 later
    ] refl h

pub each_append : {X : Type 0} (P : X → Type 0) (xs ys : List X) → Each P xs → Each P ys → Each P (xs ++ ys)
each_append P [] ys a b = b
each_append P (x ∷ xs) ys a b = (a.0, each_append P xs ys a.1 b)

pub each_left : {X : Type 0} (P : X → Type 0) (xs ys : List X) → Each P (xs ++ ys) → Each P xs
each_left P [] ys a = tt
each_left P (x ∷ xs) ys a = (a.0, each_left P xs ys a.1)

pub each_right : {X : Type 0} (P : X → Type 0) (xs ys : List X) → Each P (xs ++ ys) → Each P ys
each_right P [] ys a = a
each_right P (x ∷ xs) ys a = each_right P xs ys a.1

pub each_so : {X : Type 0} (P Q : X → Type 0) (xs : List X) → ((x : X) → P x → Q x) → Each P xs → Each Q xs
each_so P Q [] f a = tt
each_so P Q (x ∷ xs) f a = (f x a.0, each_so P Q xs f a.1)

pub each_from : (P : Text → Type 0) (ids : List Text) → ((id : Text) → In id ids → P id) → Each P ids
each_from P [] f = tt
each_from P (x ∷ ids) f = (f x (in_first x ids), each_from P ids (λ id h. f id (in_rest x id ids h)))

-- ---- picking a live id of the set

abbrev Says : (Live → Type 0) → List Text → List Live → Picked → Type 0
Says P ids lives none = Each (λ e. has_text ids e.id ≡ false) lives
Says P ids lives (picked e rest) =
    In e.id ids × (length lives ≡ suc (length rest)) × (P e → Each P rest → Each P lives) × (Each P lives → P e × Each P rest)

says_beside : (P : Live → Type 0) (ids : List Text) (x : Live) (lives : List Live) (p : Picked) → has_text ids x.id ≡ false → Says P ids lives p → Says P ids (x ∷ lives) (beside x p)
says_beside P ids x lives none not_in h = (not_in, h)
says_beside P ids x lives (picked e rest) not_in h =
    (h.0, ap suc h.1, (λ pe all. (all.0, h.2 pe all.1)), λ all. let r = h.3 all.1 in (r.0, (all.0, r.1)))

pub pick_says : (P : Live → Type 0) (ids : List Text) (lives : List Live) → Says P ids lives (pick ids lives)
pick_says P ids [] = tt
pick_says P ids (x ∷ lives) =
    elim (has_text ids x.id) as (λ b. has_text ids x.id ≡ b → Says P ids (x ∷ lives) (cond b (picked x lives) (beside x (pick ids lives)))) [
      | true ↦ λ e. (e, refl, (λ p all. (p, all)), λ all. (all.0, all.1))
      | false ↦ λ e. says_beside P ids x lives (pick ids lives) e (pick_says P ids lives)
    ] refl

-- ---- the set that grows

keeps_at : (n : ℕ) (ids : List Text) (id : Text) (p : Picked) → In id ids → ((rest : List Live) (more : List Text) → In id more → In id (grow n rest more))
    → In id (of_picked ids (λ e rest. grow n rest (ids ++ e.out)) p)
keeps_at n ids id none h later = h
keeps_at n ids id (picked e rest) h later = later rest (ids ++ e.out) (in_left ids e.out id h)

pub grown_keeps : (n : ℕ) (lives : List Live) (ids : List Text) (id : Text) → In id ids → In id (grow n lives ids)
grown_keeps zero lives ids id h = h
grown_keeps (suc n) lives ids id h = keeps_at n ids id (pick ids lives) h (λ rest more. grown_keeps n rest more id)

-- the set holds what a live id leads to, where it holds the id
abbrev pub Done : List Text → Live → Type 0
Done ids e = In e.id ids → Each (λ j. In j ids) e.out

closed_at : (n : ℕ) (lives : List Live) (ids : List Text) (p : Picked) → ((P : Live → Type 0) → Says P ids lives p) → length lives ≤ suc n
    → ((rest : List Live) (more : List Text) → length rest ≤ n → Each (Done (grow n rest more)) rest)
    → Each (Done (of_picked ids (λ e rest. grow n rest (ids ++ e.out)) p)) lives
closed_at n lives ids none says short later =
    each_so (λ e. has_text ids e.id ≡ false) (Done ids) lives (λ e not_in is_in. absurd (true≢false (sym is_in ∙ not_in))) (says (Done ids))
closed_at n lives ids (picked e rest) says short later =
    let all = grow n rest (ids ++ e.out) in
    let s = says (Done all) in
    let here : Done all e = λ _. each_from (λ j. In j all) e.out (λ j h. grown_keeps n rest (ids ++ e.out) j (in_right ids e.out j h)) in
    s.2 here (later rest (ids ++ e.out) (omega (arith, s.1)))

pub grown_closed : (n : ℕ) (lives : List Live) (ids : List Text) → length lives ≤ n → Each (Done (grow n lives ids)) lives
grown_closed zero [] ids short = tt
grown_closed zero (e ∷ lives) ids short = absurd (omega arith)
grown_closed (suc n) lives ids short = closed_at n lives ids (pick ids lives) (λ P. pick_says P ids lives) short (grown_closed n)

abbrev pub Closed : (Text → Type 0) → Live → Type 0
Closed P e = P e.id → Each P e.out

least_at : (P : Text → Type 0) (n : ℕ) (lives : List Live) (ids : List Text) (p : Picked) → Says (Closed P) ids lives p → Each P ids → Each (Closed P) lives
    → ((rest : List Live) (more : List Text) → Each P more → Each (Closed P) rest → Each P (grow n rest more))
    → Each P (of_picked ids (λ e rest. grow n rest (ids ++ e.out)) p)
least_at P n lives ids none says all closed later = all
least_at P n lives ids (picked e rest) says all closed later =
    let r = says.3 closed in
    later rest (ids ++ e.out) (each_append P ids e.out all (r.0 (of_member P ids e.id all says.0))) r.1

-- whatever holds of the first ids and is closed holds of all that are led to
pub grown_least : (P : Text → Type 0) (n : ℕ) (lives : List Live) (ids : List Text) → Each P ids → Each (Closed P) lives → Each P (grow n lives ids)
grown_least P zero lives ids all closed = all
grown_least P (suc n) lives ids all closed = least_at P n lives ids (pick ids lives) (pick_says (Closed P) ids lives) all closed (grown_least P n)
