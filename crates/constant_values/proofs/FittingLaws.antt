-- A literal that fits evaluates to a value that fits, and what fits a type fits each type that it agrees with.
use Rattle.std.proofs.Common.{◌≡◌, ◌⊎◌, ℤ, Bool, true, false, not, ◌&&◌, ◌||◌, cond, List, [], ◌∷◌, Option, Some, None, is_some, bytes_eq, codes, refl, sym, ap, ◌∙◌, subst, inl, inr, ⊎_elim, true≢false}
use Rattle.std.proofs.lemmas.Bool.{and_parts, and_from, or_cases, or_left, or_right}
use Rattle.std.proofs.lemmas.Map.Text.{is_eq-slice_cmp}
use Rattle.std.proofs.lemmas.Slice.Eq.{bytes_eq-Decides}
use Rattle.std.specs.Cmp.Lexicographic.{slice_cmp}
use Rattle.std.specs.Ordering.{nat_cmp, is_eq, match_ordering}
use Rattle.std.specs.declared.cmp.Ordering.{Ordering}
use Rattle.std.specs.declared.cmp.Ordering.TheVariants.{Less, Equal, Greater}
use Rattle.schema_types.specs.gql_ast.Ty.{Ty, named, list, non_null}
use Rattle.schema_types.specs.gql_ast.Value as v
use Rattle.schema_types.specs.gql_ast.Value.{Val, Vals}
use Rattle.schema_types.specs.gql_ast.declared.member.InputTree.{InputTree}
use Rattle.schema_types.specs.gql_plain.Tree as t
use Rattle.schema_types.specs.gql_plain.Tree.{Tree, Trees, members_of}
use Rattle.schema_types.specs.Environments as env
use Rattle.schema_types.specs.Environments.{Values, evaluation, items_evaluated, pairs_evaluated, with_new_pair, suits_meaning, has_key, gives_each_required, suits_as_object}
use Rattle.schema_types.specs.schema_tables.Fits as lit
use Rattle.schema_types.specs.schema_tables.Fits.{Meaning, built_in, one_of, fields, anything, meaning_of, fits_meaning, item_of, is_list_type, is_non_null, is_required, has_member, gives_required, takes_object, takes_list, input_type, types_agree}
use Rattle.schema_types.specs.schema_tables.Types.{Text, Defs, base_of, input_named}
use Rattle.constant_values.specs.Fittings.{is_constant, are_constant, have_constants, LiteralsFit, AgreeingTypesFit}

no : {A : Type 0} → false ≡ true → A
no e = absurd (true≢false (sym e))

-- ---- values that are no list, null or object

int_suits : (z : ℤ) (m : Meaning) → fits_meaning (v.int z) m ≡ true → suits_meaning (t.whole z) m ≡ true
int_suits z (built_in n) h = h
int_suits z (one_of ns) h = no h
int_suits z (fields is) h = no h
int_suits z anything h = refl

text_suits : (s : Text) (m : Meaning) → fits_meaning (v.text s) m ≡ true → suits_meaning (t.text s) m ≡ true
text_suits s (built_in n) h = h
text_suits s (one_of ns) h = no h
text_suits s (fields is) h = no h
text_suits s anything h = refl

truth_suits : (b : Bool) (m : Meaning) → fits_meaning (v.truth b) m ≡ true → suits_meaning (t.truth b) m ≡ true
truth_suits b (built_in n) h = h
truth_suits b (one_of ns) h = no h
truth_suits b (fields is) h = no h
truth_suits b anything h = refl

never : (a b c d : Bool) → cond a false (cond b false (cond c false (cond d false false))) ≡ false
never true b c d = refl
never false true c d = refl
never false false true d = refl
never false false false true = refl
never false false false false = refl

enum_suits : (n : Text) (m : Meaning) → fits_meaning (v.enum n) m ≡ true → suits_meaning (t.text n) m ≡ true
enum_suits n (built_in b) h = no (sym (never (bytes_eq b (codes "Int")) (bytes_eq b (codes "Float")) (bytes_eq b (codes "String")) (bytes_eq b (codes "Boolean"))) ∙ h)
enum_suits n (one_of ns) h = h
enum_suits n (fields is) h = no h
enum_suits n anything h = refl

may_be : (e : Values) (x : Val) (of : Ty) → is_constant x ≡ true → lit.may_be_item x of ≡ true → env.may_be_item (evaluation e x) of ≡ true
may_be e (v.variable n) of c h = no c
may_be e (v.int z) of c h = h
may_be e (v.text s) of c h = h
may_be e (v.truth b) of c h = h
may_be e v.null of c h = refl
may_be e (v.enum n) of c h = h
may_be e (v.list vs) of c h = refl
may_be e (v.object ms) of c h = h

-- ---- pairs that are put in byte order

put_fits : (defs : Defs) (is : List InputTree) (n : Text) (x : Tree) (ps : Values) → is_some (input_named is n) ≡ true → env.fits defs x (input_type (input_named is n)) ≡ true
    → env.members_fit defs (members_of ps) (fields is) ≡ true → env.members_fit defs (members_of (with_new_pair n x ps)) (fields is) ≡ true
put_fits defs is n x [] s f all = and_from _ _ (and_from _ _ s f) refl
put_fits defs is n x (p ∷ ps) s f all = at (slice_cmp nat_cmp n p.0) (put_fits defs is n x ps s f)
  where
    at : (o : Ordering) → (env.members_fit defs (members_of ps) (fields is) ≡ true → env.members_fit defs (members_of (with_new_pair n x ps)) (fields is) ≡ true)
        → env.members_fit defs (members_of (match_ordering o ((n, x) ∷ p ∷ ps) (p ∷ ps) (p ∷ with_new_pair n x ps))) (fields is) ≡ true
    at Less next = and_from _ _ (and_from _ _ s f) all
    at Equal next = all
    at Greater next =
        let q = and_parts (is_some (input_named is p.0) && env.fits defs p.1 (input_type (input_named is p.0))) (env.members_fit defs (members_of ps) (fields is)) all in
        and_from _ _ q.0 (next q.1)

-- a key that is put, or was there, is there
put_key : (n : Text) (x : Tree) (ps : Values) (k : Text) → (bytes_eq n k || has_key k (members_of ps)) ≡ true → has_key k (members_of (with_new_pair n x ps)) ≡ true
put_key n x [] k h = h
put_key n x (p ∷ ps) k h = at (slice_cmp nat_cmp n p.0) refl (put_key n x ps k)
  where
    same : slice_cmp nat_cmp n p.0 ≡ Equal → n ≡ p.0
    same e = (bytes_eq-Decides n p.0).0 (sym (is_eq-slice_cmp n p.0) ∙ ap is_eq e)

    at : (o : Ordering) → slice_cmp nat_cmp n p.0 ≡ o → ((bytes_eq n k || has_key k (members_of ps)) ≡ true → has_key k (members_of (with_new_pair n x ps)) ≡ true)
        → has_key k (members_of (match_ordering o ((n, x) ∷ p ∷ ps) (p ∷ ps) (p ∷ with_new_pair n x ps))) ≡ true
    at Less e next = h
    at Equal e next =
        ⊎_elim (λ w. or_left (bytes_eq p.0 k) (has_key k (members_of ps)) (subst (λ m. bytes_eq m k ≡ true) (same e) w)) (λ w. w)
        (or_cases (bytes_eq n k) (bytes_eq p.0 k || has_key k (members_of ps)) h)
    at Greater e next =
        ⊎_elim
        (λ w. or_right (bytes_eq p.0 k) (has_key k (members_of (with_new_pair n x ps))) (next (or_left (bytes_eq n k) (has_key k (members_of ps)) w)))
        (λ w. ⊎_elim (λ u. or_left (bytes_eq p.0 k) (has_key k (members_of (with_new_pair n x ps))) u)
        (λ u. or_right (bytes_eq p.0 k) (has_key k (members_of (with_new_pair n x ps))) (next (or_right (bytes_eq n k) (has_key k (members_of ps)) u)))
        (or_cases (bytes_eq p.0 k) (has_key k (members_of ps)) w))
        (or_cases (bytes_eq n k) (bytes_eq p.0 k || has_key k (members_of ps)) h)

key_kept : (e : Values) (ms : v.Members) (k : Text) → has_member k ms ≡ true → has_key k (members_of (pairs_evaluated e ms)) ≡ true
key_kept e v.no_members k h = no h
key_kept e (v.member n x ms) k h =
    put_key n (evaluation e x) (pairs_evaluated e ms) k (⊎_elim (λ w. or_left (bytes_eq n k) (has_key k (members_of (pairs_evaluated e ms))) w)
    (λ w. or_right (bytes_eq n k) (has_key k (members_of (pairs_evaluated e ms))) (key_kept e ms k w)) (or_cases (bytes_eq n k) (has_member k ms) h))

required_kept : (e : Values) (ms : v.Members) (is : List InputTree) → gives_required is ms ≡ true → gives_each_required is (members_of (pairs_evaluated e ms)) ≡ true
required_kept e ms [] h = refl
required_kept e ms (i ∷ is) h =
    let q = and_parts (not (is_required i) || has_member i.name ms) (gives_required is ms) h in
    and_from _ _ (⊎_elim (λ w. or_left (not (is_required i)) (has_key i.name (members_of (pairs_evaluated e ms))) w)
    (λ w. or_right (not (is_required i)) (has_key i.name (members_of (pairs_evaluated e ms))) (key_kept e ms i.name w)) (or_cases (not (is_required i)) (has_member i.name ms) q.0))
    (required_kept e ms is q.1)

-- an object of what is no input object has nothing to fit
free_members : (defs : Defs) (ms : t.Members) → env.members_fit defs ms anything ≡ true
free_members defs t.no_members = refl
free_members defs (t.member n x ms) = refl

-- an object, where its members are known to fit an input object
object_evaluates : (defs : Defs) (e : Values) (ms : v.Members) (m : Meaning) → ((is : List InputTree) → lit.members_fit defs ms (fields is) ≡ true → env.members_fit defs (members_of (pairs_evaluated e ms)) (fields is) ≡ true)
    → (takes_object ms m && lit.members_fit defs ms m) ≡ true → (suits_as_object (members_of (pairs_evaluated e ms)) m && env.members_fit defs (members_of (pairs_evaluated e ms)) m) ≡ true
object_evaluates defs e ms (built_in n) next h = no h
object_evaluates defs e ms (one_of ns) next h = no h
object_evaluates defs e ms anything next h = free_members defs (members_of (pairs_evaluated e ms))
object_evaluates defs e ms (fields is) next h =
    let q = and_parts (gives_required is ms) (lit.members_fit defs ms (fields is)) h in
    and_from _ _ (required_kept e ms is q.0) (next is q.1)

mutual
  literal_evaluates : (defs : Defs) (e : Values) (x : Val) (of : Ty) → is_constant x ≡ true → lit.literal_fits defs x of ≡ true → env.fits defs (evaluation e x) of ≡ true
  literal_evaluates defs e (v.variable n) of c h = no c
  literal_evaluates defs e (v.int z) of c h = int_suits z (meaning_of defs (base_of of)) h
  literal_evaluates defs e (v.text s) of c h = text_suits s (meaning_of defs (base_of of)) h
  literal_evaluates defs e (v.truth b) of c h = truth_suits b (meaning_of defs (base_of of)) h
  literal_evaluates defs e v.null of c h = h
  literal_evaluates defs e (v.enum n) of c h = enum_suits n (meaning_of defs (base_of of)) h
  literal_evaluates defs e (v.list vs) of c h =
      let q = and_parts (takes_list (item_of of) (meaning_of defs (base_of of))) (lit.items_fit defs vs (item_of of)) h in
      and_from _ _ q.0 (items_evaluate defs e vs (item_of of) c q.1)
  literal_evaluates defs e (v.object ms) of c h = object_evaluates defs e ms (meaning_of defs (base_of of)) (λ is g. members_evaluate defs e ms is c g) h

  items_evaluate : (defs : Defs) (e : Values) (vs : Vals) (item : Option Ty) → are_constant vs ≡ true → lit.items_fit defs vs item ≡ true → env.items_fit defs (items_evaluated e vs) item ≡ true
  items_evaluate defs e v.no_vals item c h = refl
  items_evaluate defs e (v.val x vs) None c h = refl
  items_evaluate defs e (v.val x vs) (Some of) c h =
      let k = and_parts (is_constant x) (are_constant vs) c in
      let q = and_parts (lit.may_be_item x of && lit.literal_fits defs x of) (lit.items_fit defs vs (Some of)) h in
      let r = and_parts (lit.may_be_item x of) (lit.literal_fits defs x of) q.0 in
      and_from _ _ (and_from _ _ (may_be e x of k.0 r.0) (literal_evaluates defs e x of k.0 r.1)) (items_evaluate defs e vs (Some of) k.1 q.1)

  members_evaluate : (defs : Defs) (e : Values) (ms : v.Members) (is : List InputTree) → have_constants ms ≡ true → lit.members_fit defs ms (fields is) ≡ true
      → env.members_fit defs (members_of (pairs_evaluated e ms)) (fields is) ≡ true
  members_evaluate defs e v.no_members is c h = refl
  members_evaluate defs e (v.member n x ms) is c h =
      let k = and_parts (is_constant x) (have_constants ms) c in
      let q = and_parts (not (has_member n ms) && is_some (input_named is n) && lit.literal_fits defs x (input_type (input_named is n))) (lit.members_fit defs ms (fields is)) h in
      let r = and_parts (not (has_member n ms) && is_some (input_named is n)) (lit.literal_fits defs x (input_type (input_named is n))) q.0 in
      let s = and_parts (not (has_member n ms)) (is_some (input_named is n)) r.0 in
      put_fits defs is n (evaluation e x) (pairs_evaluated e ms) s.1 (literal_evaluates defs e x (input_type (input_named is n)) k.0 r.1) (members_evaluate defs e ms is k.1 q.1)

pub literals_fit : LiteralsFit
literals_fit defs e x of c h = literal_evaluates defs e x of c h

-- ---- types that agree

-- neither is a list type, or both are, of items that agree
abbrev ItemsAgree : Ty → Ty → Type 0
ItemsAgree a b = ((item_of a ≡ None) × (item_of b ≡ None)) ⊎ ((c : Ty) × (d : Ty) × (item_of a ≡ Some c) × (item_of b ≡ Some d) × (types_agree c d ≡ true))

items_agree : (a b : Ty) → types_agree a b ≡ true → ItemsAgree a b
items_agree (non_null a) (non_null b) h = items_agree a b h
items_agree (non_null a) (named n) h = items_agree a (named n) h
items_agree (non_null a) (list b) h = items_agree a (list b) h
items_agree (named m) (named n) h = inl (refl, refl)
items_agree (named m) (list b) h = no h
items_agree (named m) (non_null b) h = no h
items_agree (list a) (list b) h = inr (a, b, refl, refl, h)
items_agree (list a) (named n) h = no h
items_agree (list a) (non_null b) h = no h

bases_agree : (a b : Ty) → types_agree a b ≡ true → base_of a ≡ base_of b
bases_agree (non_null a) (non_null b) h = bases_agree a b h
bases_agree (non_null a) (named n) h = bases_agree a (named n) h
bases_agree (non_null a) (list b) h = bases_agree a (list b) h
bases_agree (named m) (named n) h = (bytes_eq-Decides m n).0 h
bases_agree (named m) (list b) h = no h
bases_agree (named m) (non_null b) h = no h
bases_agree (list a) (list b) h = bases_agree a b h
bases_agree (list a) (named n) h = no h
bases_agree (list a) (non_null b) h = no h

null_agrees : (a b : Ty) → types_agree a b ≡ true → not (is_non_null a) ≡ true → not (is_non_null b) ≡ true
null_agrees (non_null a) b h f = no f
null_agrees (named m) (named n) h f = refl
null_agrees (named m) (list b) h f = no h
null_agrees (named m) (non_null b) h f = no h
null_agrees (list a) (list b) h f = refl
null_agrees (list a) (named n) h f = no h
null_agrees (list a) (non_null b) h f = no h

list_types_agree : (a b : Ty) → types_agree a b ≡ true → is_list_type a ≡ is_list_type b
list_types_agree a b h =
    ⊎_elim (λ w. ap is_some w.0 ∙ sym (ap is_some w.1)) (λ w. ap is_some w.2 ∙ sym (ap is_some w.3)) (items_agree a b h)

may_be_agrees : (x : Tree) (a b : Ty) → is_list_type a ≡ is_list_type b → env.may_be_item x a ≡ true → env.may_be_item x b ≡ true
may_be_agrees t.null a b e h = refl
may_be_agrees (t.truth c) a b e h = sym (ap not e) ∙ h
may_be_agrees (t.whole z) a b e h = sym (ap not e) ∙ h
may_be_agrees (t.text s) a b e h = sym (ap not e) ∙ h
may_be_agrees (t.list xs) a b e h = refl
may_be_agrees (t.object ms) a b e h = sym (ap not e) ∙ h

mutual
  value_agrees : (defs : Defs) (x : Tree) (a b : Ty) → types_agree a b ≡ true → env.fits defs x a ≡ true → env.fits defs x b ≡ true
  value_agrees defs t.null a b h f = null_agrees a b h f
  value_agrees defs (t.truth c) a b h f = subst (λ n. suits_meaning (t.truth c) (meaning_of defs n) ≡ true) (bases_agree a b h) f
  value_agrees defs (t.whole z) a b h f = subst (λ n. suits_meaning (t.whole z) (meaning_of defs n) ≡ true) (bases_agree a b h) f
  value_agrees defs (t.text s) a b h f = subst (λ n. suits_meaning (t.text s) (meaning_of defs n) ≡ true) (bases_agree a b h) f
  value_agrees defs (t.object ms) a b h f =
      subst (λ n. (suits_as_object ms (meaning_of defs n) && env.members_fit defs ms (meaning_of defs n)) ≡ true) (bases_agree a b h) f
  value_agrees defs (t.list xs) a b h f =
      let q = and_parts (takes_list (item_of a) (meaning_of defs (base_of a))) (env.items_fit defs xs (item_of a)) f in
      ⊎_elim
      (λ w. subst (λ n. (takes_list (item_of b) (meaning_of defs n) && env.items_fit defs xs (item_of b)) ≡ true) (bases_agree a b h)
      (subst (λ o. (takes_list o (meaning_of defs (base_of a)) && env.items_fit defs xs o) ≡ true) (w.0 ∙ sym w.1) f))
      (λ w. subst (λ o. (takes_list o (meaning_of defs (base_of b)) && env.items_fit defs xs o) ≡ true) (sym w.3)
      (values_agree defs xs w.0 w.1 w.4 (subst (λ o. env.items_fit defs xs o ≡ true) w.2 q.1)))
      (items_agree a b h)

  values_agree : (defs : Defs) (xs : Trees) (a b : Ty) → types_agree a b ≡ true → env.items_fit defs xs (Some a) ≡ true → env.items_fit defs xs (Some b) ≡ true
  values_agree defs t.no_trees a b h f = refl
  values_agree defs (t.tree x xs) a b h f =
      let q = and_parts (env.may_be_item x a && env.fits defs x a) (env.items_fit defs xs (Some a)) f in
      let r = and_parts (env.may_be_item x a) (env.fits defs x a) q.0 in
      and_from _ _ (and_from _ _ (may_be_agrees x a b (list_types_agree a b h) r.0) (value_agrees defs x a b h r.1)) (values_agree defs xs a b h q.1)

pub agreeing_types_fit : AgreeingTypesFit
agreeing_types_fit defs x a b h f = value_agrees defs x a b h f
