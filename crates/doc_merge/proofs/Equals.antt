-- Values, arguments and signatures are compared by equivalences.
use Rattle.std.proofs.Common.{◌≡◌, Bool, true, false, true≢false, ◌&&◌, ◌||◌, List, [], ◌∷◌, bytes_eq, refl, ap, sym, ◌∙◌}
use Rattle.std.specs.Cmp.{booleans_Decides, signed_Decides}
use Rattle.std.specs.List.{list_all, list_any}
use Rattle.doc_merge.proofs.Anys.{or_true}
use Rattle.doc_merge.proofs.Levels.{text_turned}
use Rattle.doc_merge.specs.Signatures.{Argument, Signature, are_within, same_argument, same_arguments, same_members, same_signature, same_value, same_values}
use Rattle.plan_ir.specs.gql_ast.Value.{Val, Vals, Members, variable, int, text, truth, null, enum, list, object, no_vals, val, no_members, member}
use Rattle.plan_ir.proofs.gql_graph_laws.TextSteps.{same_self, same_text}
use Rattle.plan_ir.specs.schema_tables.Types.{Text}

pub and_left : (a b : Bool) → (a && b) ≡ true → a ≡ true
and_left true b e = refl
and_left false b e = e

pub and_right : (a b : Bool) → (a && b) ≡ true → b ≡ true
and_right true b e = e
and_right false b e = absurd (true≢false (sym e))

pub and_both : (a b : Bool) → a ≡ true → b ≡ true → (a && b) ≡ true
and_both a b e f = λ k. e k && f k

-- ---- values

mutual
  pub same_value-sound : (x y : Val) → same_value x y ≡ true → x ≡ y
  same_value-sound (variable m) (variable n) h = ap variable (same_text m n h)
  same_value-sound (int m) (int n) h = ap int ((signed_Decides m n).0 h)
  same_value-sound (text m) (text n) h = ap text (same_text m n h)
  same_value-sound (truth a) (truth b) h = ap truth ((booleans_Decides a b).0 h)
  same_value-sound null null h = refl
  same_value-sound (enum m) (enum n) h = ap enum (same_text m n h)
  same_value-sound (list vs) (list ws) h = ap list (same_values-sound vs ws h)
  same_value-sound (object ms) (object ns) h = ap object (same_members-sound ms ns h)
  same_value-sound x y h = absurd (true≢false (sym h))

  pub same_values-sound : (x y : Vals) → same_values x y ≡ true → x ≡ y
  same_values-sound no_vals no_vals h = refl
  same_values-sound (val v vs) (val w ws) h =
      λ i. val (same_value-sound v w (and_left (same_value v w) (same_values vs ws) h) i) (same_values-sound vs ws (and_right (same_value v w) (same_values vs ws) h) i)
  same_values-sound x y h = absurd (true≢false (sym h))

  pub same_members-sound : (x y : Members) → same_members x y ≡ true → x ≡ y
  same_members-sound no_members no_members h = refl
  same_members-sound (member m v ms) (member n w ns) h =
      let rest = and_right (bytes_eq m n) _ h in
      λ i. member (same_text m n (and_left (bytes_eq m n) _ h) i) (same_value-sound v w (and_left (same_value v w) (same_members ms ns) rest) i)
      (same_members-sound ms ns (and_right (same_value v w) (same_members ms ns) rest) i)
  same_members-sound x y h = absurd (true≢false (sym h))

mutual
  pub same_value-itself : (x : Val) → same_value x x ≡ true
  same_value-itself (variable n) = same_self n
  same_value-itself (int n) = (signed_Decides n n).1 refl
  same_value-itself (text n) = same_self n
  same_value-itself (truth b) = (booleans_Decides b b).1 refl
  same_value-itself null = refl
  same_value-itself (enum n) = same_self n
  same_value-itself (list vs) = same_values-itself vs
  same_value-itself (object ms) = same_members-itself ms

  pub same_values-itself : (x : Vals) → same_values x x ≡ true
  same_values-itself no_vals = refl
  same_values-itself (val v vs) = λ i. same_value-itself v i && same_values-itself vs i

  pub same_members-itself : (x : Members) → same_members x x ≡ true
  same_members-itself no_members = refl
  same_members-itself (member m v ms) = λ i. same_self m i && (same_value-itself v i && same_members-itself ms i)

-- ---- arguments

pub same_argument-sound : (x y : Argument) → same_argument x y ≡ true → x ≡ y
same_argument-sound x y h = λ i. (same_text x.0 y.0 (and_left (bytes_eq x.0 y.0) _ h) i, same_value-sound x.1 y.1 (and_right (bytes_eq x.0 y.0) _ h) i)

pub same_argument-itself : (x : Argument) → same_argument x x ≡ true
same_argument-itself x = λ i. same_self x.0 i && same_value-itself x.1 i

-- what holds of all holds of one that is among them
all_at : (f : Argument → Bool) (x : Argument) (ys : List Argument) → list_all f ys ≡ true → list_any (same_argument x) ys ≡ true → f x ≡ true
all_at f x [] h i = absurd (true≢false (sym i))
all_at f x (y ∷ ys) h i = on (same_argument x y) refl i (λ j. all_at f x ys (and_right (f y) (list_all f ys) h) j) where
  on : (b : Bool) → same_argument x y ≡ b → (b || list_any (same_argument x) ys) ≡ true → (list_any (same_argument x) ys ≡ true → f x ≡ true) → f x ≡ true
  on true e j g = ap f (same_argument-sound x y e) ∙ and_left (f y) (list_all f ys) h
  on false e j g = g j

all_each : (f g : Argument → Bool) → ((x : Argument) → f x ≡ true → g x ≡ true) → (xs : List Argument) → list_all f xs ≡ true → list_all g xs ≡ true
all_each f g h [] e = refl
all_each f g h (x ∷ xs) e = and_both (g x) (list_all g xs) (h x (and_left (f x) (list_all f xs) e)) (all_each f g h xs (and_right (f x) (list_all f xs) e))

within_self : (xs : List Argument) → are_within xs xs ≡ true
within_self [] = refl
within_self (x ∷ xs) =
    and_both _ _ (ap (λ b. b || list_any (same_argument x) xs) (same_argument-itself x))
    (all_each (λ y. list_any (same_argument y) xs) (λ y. list_any (same_argument y) (x ∷ xs)) (λ y e. ap (λ b. same_argument y x || b) e ∙ or_true (same_argument y x)) xs (within_self xs))

within_steps : (xs ys zs : List Argument) → are_within xs ys ≡ true → are_within ys zs ≡ true → are_within xs zs ≡ true
within_steps xs ys zs e f =
    all_each (λ x. list_any (same_argument x) ys) (λ x. list_any (same_argument x) zs) (λ x h. all_at (λ y. list_any (same_argument y) zs) x ys f h) xs e

pub same_arguments-itself : (xs : List Argument) → same_arguments xs xs ≡ true
same_arguments-itself xs = and_both _ _ (within_self xs) (within_self xs)

pub same_arguments_turned : (xs ys : List Argument) → same_arguments xs ys ≡ true → same_arguments ys xs ≡ true
same_arguments_turned xs ys e = and_both _ _ (and_right (are_within xs ys) _ e) (and_left (are_within xs ys) _ e)

pub same_arguments_steps : (xs ys zs : List Argument) → same_arguments xs ys ≡ true → same_arguments ys zs ≡ true → same_arguments xs zs ≡ true
same_arguments_steps xs ys zs e f =
    and_both _ _ (within_steps xs ys zs (and_left (are_within xs ys) _ e) (and_left (are_within ys zs) _ f))
    (within_steps zs ys xs (and_right (are_within ys zs) _ f) (and_right (are_within xs ys) _ e))

-- ---- names and arguments

pub signature_turned : (a b : Signature) → same_signature a b ≡ true → same_signature b a ≡ true
signature_turned a b e =
    and_both _ _ (sym (text_turned a.name b.name) ∙ and_left (bytes_eq a.name b.name) _ e) (same_arguments_turned a.arguments b.arguments (and_right (bytes_eq a.name b.name) _ e))

pub signature_steps : (a b c : Signature) → same_signature a b ≡ true → same_signature b c ≡ true → same_signature a c ≡ true
signature_steps a b c e f =
    and_both _ _ (ap (λ (n : Text). bytes_eq n c.name) (same_text a.name b.name (and_left (bytes_eq a.name b.name) _ e)) ∙ and_left (bytes_eq b.name c.name) _ f)
    (same_arguments_steps a.arguments b.arguments c.arguments (and_right (bytes_eq a.name b.name) _ e) (and_right (bytes_eq b.name c.name) _ f))
