-- The text of a sound operation is UTF-8.
use Rattle.std.proofs.Common.{◌≡◌, ℕ, suc, ◌+◌, ◌/◌, ◌%◌, ◌<◌, ◌≤◌, ◌⊎◌, Bool, true, false, cond, eqb, ltb, leb, ◌||◌, List, [], ◌∷◌, ◌++◌, map, codes, Option, Some, None, option_map, unwrap_or, ℤ, pos, negsuc, bytes_eq, IsUtf8, decimal, lit<, refl, sym, subst, inl, inr, arith, append_assoc, mod-lt}
use Rattle.std.proofs.lemmas.Bool.{and_parts, cases_lt, leb-true}
use Rattle.std.proofs.lemmas.Fmt.{IsAscii-decimal}
use Rattle.std.proofs.lemmas.Nat.{div_below}
use Rattle.std.proofs.lemmas.Str.{IsUtf8-append, IsUtf8-from_ascii}
use Rattle.std.specs.Char.{digit_char}
use Rattle.std.specs.Cmp.Lexicographic.{slice_cmp}
use Rattle.std.specs.Fmt.{signed_decimal}
use Rattle.std.specs.List.{AllByRecursion, list_all}
use Rattle.std.specs.Option.{IfSome}
use Rattle.std.specs.Ordering.{nat_cmp, match_ordering}
use Rattle.std.specs.declared.cmp.Ordering.{Ordering}
use Rattle.std.specs.declared.cmp.Ordering.TheVariants.{Less, Equal, Greater}
use Rattle.json.proofs.Printed.Strings.{escape_byte_plain}
use Rattle.json.specs.Print.{escape, escape_byte, escape_letter, quoted}
use Rattle.plan_ir.specs.gql_ast.Ty as ty
use Rattle.plan_ir.specs.gql_ast.Ty.{Ty}
use Rattle.plan_ir.specs.gql_ast.TypeView.{ty_of}
use Rattle.plan_ir.specs.gql_ast.Value.{Val, Vals, Members, variable, int, text, truth, null, enum, list, object, no_vals, val, no_members, member}
use Rattle.plan_ir.specs.gql_ast.ValueView.{value_of}
use Rattle.plan_ir.specs.gql_ast.declared.directive.Directive.{Directive}
use Rattle.plan_ir.specs.gql_ast.declared.document.Kind.{Kind}
use Rattle.plan_ir.specs.gql_ast.declared.document.Kind.TheVariants.{Query, Mutation, Subscription}
use Rattle.plan_ir.specs.gql_ast.declared.value.ValueTree.{ValueTree}
use Rattle.plan_ir.specs.gql_ast.declared.variable.VariableDef.{VariableDef}
use Rattle.plan_ir.proofs.gql_lex_laws.Extents.{or_below, same_below}
use Rattle.plan_ir.specs.gql_plain.Names.{is_name_byte, is_name_start, is_within}
use Rattle.plan_ir.specs.gql_syntax.Formed.{FormedType}
use Rattle.plan_ir.specs.gql_syntax.Words.{IsInt, IsName, kind_word, null_word, truth_word}
use Rattle.plan_ir.specs.Nodes.{Nodes, end, field, inline}
use Rattle.plan_ir.specs.OperationText.{arguments_text, by_name, condition_text, default_text, directives_text, enclose, enclose_some, join_texts, member_texts, name_text, node_texts, operation_text, pairs_text, type_text, used_variables, value_text, value_texts, variable_text, variables_text, with_member}
use Rattle.plan_ir.specs.Substitution.{Arguments}
use Rattle.plan_ir.specs.declared.expanded.Expanded.{Expanded}
use Rattle.plan_project.proofs.SoundNodes.{SoundNodes}
use Rattle.plan_project.proofs.SoundTrees.{SoundArguments, SoundDefault, SoundDirectives, SoundMembers, SoundValue, SoundValues, SoundVariable}
use Rattle.plan_project.proofs.Utf8Strings.{cut_at, no_text, one_ascii, put_ascii}
use Rattle.plan_text.proofs.OperationRead.{all-filter}
use Rattle.plan_ir.specs.schema_tables.Types.{Text}

-- ---- names and numbers

within_below : (low high c : ℕ) → high < 128 → is_within low high c ≡ true → c < 128
within_below low high c h e = omega (arith, h, leb-true c high (and_parts (leb low c) (leb c high) e).1)

start_below : (c : ℕ) → is_name_start c ≡ true → c < 128
start_below c =
    or_below c (is_within 65 90 c || is_within 97 122 c) (eqb c 95)
    (or_below c (is_within 65 90 c) (is_within 97 122 c) (within_below 65 90 c (lit< tt)) (within_below 97 122 c (lit< tt)))
    (same_below c 95 (lit< tt))

byte_below : (c : ℕ) → is_name_byte c ≡ true → c < 128
byte_below c = or_below c (is_name_start c) (is_within 48 57 c) (start_below c) (within_below 48 57 c (lit< tt))

bytes_utf8 : (cs : Text) → list_all is_name_byte cs ≡ true → IsUtf8 cs
bytes_utf8 [] h = no_text
bytes_utf8 (c ∷ cs) h = let r = and_parts (is_name_byte c) (list_all is_name_byte cs) h in put_ascii c cs (byte_below c r.0) (bytes_utf8 cs r.1)

name_utf8 : (n : Text) → IsName n → IsUtf8 n
name_utf8 [] h = no_text
name_utf8 (c ∷ cs) h = let r = and_parts (is_name_start c) (list_all is_name_byte cs) h in put_ascii c cs (start_below c r.0) (bytes_utf8 cs r.1)

int_utf8 : (z : ℤ) → IsInt z → IsUtf8 (signed_decimal z)
int_utf8 (pos n) h = IsUtf8-from_ascii (decimal n) (IsAscii-decimal n (omega (arith, h.sfits)))
int_utf8 (negsuc n) h = put_ascii 45 (decimal (suc n)) (lit< tt) (IsUtf8-from_ascii (decimal (suc n)) (IsAscii-decimal (suc n) (omega (arith, h.sfits))))

-- ---- texts as in JSON

either_below : (b : Bool) (x y : ℕ) → x < 128 → y < 128 → cond b x y < 128
either_below true x y h k = h
either_below false x y h k = k

either_utf8 : (b : Bool) (s t : Text) → IsUtf8 s → IsUtf8 t → IsUtf8 (cond b s t)
either_utf8 true s t h k = h
either_utf8 false s t h k = k

letter_below : (x : ℕ) → x < 128 → escape_letter x < 128
letter_below x h =
    either_below (eqb x 34 || eqb x 92) x _ h (either_below (eqb x 8) 98 _ (lit< tt) (either_below (eqb x 12) 102 _ (lit< tt) (either_below (eqb x 10) 110 _ (lit< tt)
    (either_below (eqb x 13) 114 _ (lit< tt) (either_below (eqb x 9) 116 0 (lit< tt) (lit< tt))))))

digit_below : (d : ℕ) → d < 16 → digit_char d < 128
digit_below d h = either_below (ltb d 10) (48 + d) (87 + d) (omega (arith, h)) (omega (arith, h))

byte_utf8 : (x : ℕ) → x < 128 → IsUtf8 (escape_byte x)
unfolding escape_byte
byte_utf8 x h =
    let high : x / 16 < 16 = div_below x 16 16 (lit< tt) (omega (arith, h)) in
    let low : x % 16 < 16 = mod-lt x (lit< tt) in
    either_utf8 (ltb 0 (escape_letter x)) (92 ∷ escape_letter x ∷ []) _ (put_ascii 92 (escape_letter x ∷ []) (lit< tt) (one_ascii (escape_letter x) (letter_below x h)))
    (either_utf8 (ltb x 32) (92 ∷ 117 ∷ 48 ∷ 48 ∷ digit_char (x / 16) ∷ digit_char (x % 16) ∷ []) (x ∷ [])
    (put_ascii 92 (117 ∷ 48 ∷ 48 ∷ digit_char (x / 16) ∷ digit_char (x % 16) ∷ []) (lit< tt) (put_ascii 117 (48 ∷ 48 ∷ digit_char (x / 16) ∷ digit_char (x % 16) ∷ []) (lit< tt)
    (put_ascii 48 (48 ∷ digit_char (x / 16) ∷ digit_char (x % 16) ∷ []) (lit< tt) (put_ascii 48 (digit_char (x / 16) ∷ digit_char (x % 16) ∷ []) (lit< tt)
    (put_ascii (digit_char (x / 16)) (digit_char (x % 16) ∷ []) (digit_below (x / 16) high) (one_ascii (digit_char (x % 16)) (digit_below (x % 16) low)))))))
    (one_ascii x h))

escape_utf8 : (t front : Text) → IsUtf8 (front ++ t) → IsUtf8 (front ++ escape t)
escape_utf8 [] front u = u
escape_utf8 (x ∷ t) front u = on (λ f v. escape_utf8 t f v) (cases_lt x 128)
  where
    on : ((f : Text) → IsUtf8 (f ++ t) → IsUtf8 (f ++ escape t)) → (x < 128) ⊎ (128 ≤ x) → IsUtf8 (front ++ (escape_byte x ++ escape t))
    on more (inl l) =
        let parts = cut_at front x t l u in
        IsUtf8-append front (escape_byte x ++ escape t) parts.0 (IsUtf8-append (escape_byte x) (escape t) (byte_utf8 x l) (more [] parts.1))
    on more (inr h) =
        let same : escape_byte x ≡ x ∷ [] = escape_byte_plain x (λ e. omega (arith, h, e)) (λ e. omega (arith, h, e)) (omega (arith, h)) in
        subst (λ b. IsUtf8 (front ++ (b ++ escape t))) (sym same)
        (subst IsUtf8 (append_assoc front (x ∷ []) (escape t)) (more (front ++ x ∷ []) (subst IsUtf8 (sym (append_assoc front (x ∷ []) t)) u)))

quoted_utf8 : (t : Text) → IsUtf8 t → IsUtf8 (quoted t)
quoted_utf8 t u = put_ascii 34 (escape t ++ 34 ∷ []) (lit< tt) (IsUtf8-append (escape t) (34 ∷ []) (escape_utf8 t [] u) (one_ascii 34 (lit< tt)))

-- ---- lists

abbrev AreUtf8 : List Text → Type 0
AreUtf8 ts = AllByRecursion IsUtf8 ts

join_utf8 : (c : ℕ) (ts : List Text) → c < 128 → AreUtf8 ts → IsUtf8 (join_texts c ts)
join_utf8 c [] l h = no_text
join_utf8 c (t ∷ []) l h = h.0
join_utf8 c (t ∷ u ∷ more) l h = IsUtf8-append t (c ∷ join_texts c (u ∷ more)) h.0 (put_ascii c (join_texts c (u ∷ more)) l (join_utf8 c (u ∷ more) l h.1))

enclose_utf8 : (o c e : ℕ) (ts : List Text) → o < 128 → c < 128 → e < 128 → AreUtf8 ts → IsUtf8 (enclose o c e ts)
enclose_utf8 o c e ts a b d h = put_ascii o (join_texts c ts ++ e ∷ []) a (IsUtf8-append (join_texts c ts) (e ∷ []) (join_utf8 c ts b h) (one_ascii e d))

enclose_some_utf8 : (o c e : ℕ) (ts : List Text) → o < 128 → c < 128 → e < 128 → AreUtf8 ts → IsUtf8 (enclose_some o c e ts)
enclose_some_utf8 o c e [] a b d h = no_text
enclose_some_utf8 o c e (t ∷ more) a b d h = enclose_utf8 o c e (t ∷ more) a b d h

-- a name, and a text
abbrev IsPair : Text × Text → Type 0
IsPair m = IsUtf8 m.0 × IsUtf8 m.1

abbrev ArePairs : List (Text × Text) → Type 0
ArePairs ms = AllByRecursion IsPair ms

put_pair : (m : Text × Text) (ms : List (Text × Text)) → IsPair m → ArePairs ms → ArePairs (with_member m ms)
put_pair m [] h k = (h, tt)
put_pair m (x ∷ xs) h k = on (put_pair m xs h k.1) (slice_cmp nat_cmp m.0 x.0)
  where
    on : ArePairs (with_member m xs) → (o : Ordering) → ArePairs (match_ordering o (m ∷ x ∷ xs) (m ∷ x ∷ xs) (x ∷ with_member m xs))
    on rest Less = (h, k)
    on rest Equal = (h, k)
    on rest Greater = (k.0, rest)

sorted_pairs : (ms : List (Text × Text)) → ArePairs ms → ArePairs (by_name ms)
sorted_pairs [] h = tt
sorted_pairs (m ∷ ms) h = put_pair m (by_name ms) h.0 (sorted_pairs ms h.1)

told : (ms : List (Text × Text)) → ArePairs ms → AreUtf8 (map (λ (m : Text × Text). m.0 ++ 58 ∷ m.1) ms)
told [] h = tt
told (m ∷ ms) h = (IsUtf8-append m.0 (58 ∷ m.1) h.0.0 (put_ascii 58 m.1 (lit< tt) h.0.1), told ms h.1)

pairs_utf8 : (ms : List (Text × Text)) → ArePairs ms → AreUtf8 (pairs_text ms)
pairs_utf8 ms h = told (by_name ms) (sorted_pairs ms h)

-- ---- values, arguments, directives, types

truth_utf8 : (b : Bool) → IsUtf8 (truth_word b)
truth_utf8 true = name_utf8 (codes "true") refl
truth_utf8 false = name_utf8 (codes "false") refl

mutual
  value_utf8 : (v : Val) → SoundValue v → IsUtf8 (value_text v)
  value_utf8 (variable n) h = put_ascii 36 n (lit< tt) (name_utf8 n h)
  value_utf8 (int z) h = int_utf8 z h
  value_utf8 (text t) h = quoted_utf8 t h
  value_utf8 (truth b) h = truth_utf8 b
  value_utf8 null h = name_utf8 null_word refl
  value_utf8 (enum n) h = name_utf8 n h.0
  value_utf8 (list vs) h = enclose_utf8 91 44 93 (value_texts vs) (lit< tt) (lit< tt) (lit< tt) (values_utf8 vs h)
  value_utf8 (object ms) h = enclose_utf8 123 44 125 (pairs_text (member_texts ms)) (lit< tt) (lit< tt) (lit< tt) (pairs_utf8 (member_texts ms) (members_utf8 ms h))

  values_utf8 : (vs : Vals) → SoundValues vs → AreUtf8 (value_texts vs)
  values_utf8 no_vals h = tt
  values_utf8 (val v vs) h = (value_utf8 v h.0, values_utf8 vs h.1)

  members_utf8 : (ms : Members) → SoundMembers ms → ArePairs (member_texts ms)
  members_utf8 no_members h = tt
  members_utf8 (member n v ms) h = ((name_utf8 n h.0, value_utf8 v h.1), members_utf8 ms h.2)

given_pairs : (xs : Arguments) → SoundArguments xs → ArePairs (map (λ (x : Text × Val). (x.0, value_text x.1)) xs)
given_pairs [] h = tt
given_pairs (x ∷ xs) h = ((name_utf8 x.0 h.0.0, value_utf8 x.1 h.0.1), given_pairs xs h.1)

arguments_utf8 : (xs : Arguments) → SoundArguments xs → IsUtf8 (arguments_text xs)
arguments_utf8 xs h =
    let pairs : List (Text × Text) = map (λ (x : Text × Val). (x.0, value_text x.1)) xs in
    enclose_some_utf8 40 44 41 (pairs_text pairs) (lit< tt) (lit< tt) (lit< tt) (pairs_utf8 pairs (given_pairs xs h))

directives_utf8 : (ds : List Directive) → SoundDirectives ds → IsUtf8 (directives_text ds)
directives_utf8 [] h = no_text
directives_utf8 (d ∷ ds) h =
    put_ascii 64 (d.name ++ arguments_text d.arguments ++ directives_text ds) (lit< tt)
    (IsUtf8-append (d.name ++ arguments_text d.arguments) (directives_text ds)
    (IsUtf8-append d.name (arguments_text d.arguments) (name_utf8 d.name h.0.0) (arguments_utf8 d.arguments h.0.1)) (directives_utf8 ds h.1))

type_utf8 : (t : Ty) → FormedType t → IsUtf8 (type_text t)
type_utf8 (ty.named n) h = name_utf8 n h
type_utf8 (ty.list t) h = put_ascii 91 (type_text t ++ 93 ∷ []) (lit< tt) (IsUtf8-append (type_text t) (93 ∷ []) (type_utf8 t h) (one_ascii 93 (lit< tt)))
type_utf8 (ty.non_null t) h = IsUtf8-append (type_text t) (33 ∷ []) (type_utf8 t h.1) (one_ascii 33 (lit< tt))

-- ---- selection sets

head_utf8 : (b : Bool) (r n : Text) → IsUtf8 r → IsUtf8 n → IsUtf8 (cond b n (r ++ 58 ∷ n))
head_utf8 b r n h k = either_utf8 b n (r ++ 58 ∷ n) k (IsUtf8-append r (58 ∷ n) h (put_ascii 58 n (lit< tt) k))

dots_utf8 : IsUtf8 (codes "...")
dots_utf8 = put_ascii 46 (46 ∷ 46 ∷ []) (lit< tt) (put_ascii 46 (46 ∷ []) (lit< tt) (one_ascii 46 (lit< tt)))

on_utf8 : IsUtf8 (codes "...on ")
on_utf8 = IsUtf8-append (codes "...") (codes "on ") dots_utf8 (put_ascii 111 (110 ∷ 32 ∷ []) (lit< tt) (put_ascii 110 (32 ∷ []) (lit< tt) (one_ascii 32 (lit< tt))))

condition_utf8 : (o : Option Text) → IfSome o IsName → IsUtf8 (condition_text o)
condition_utf8 None h = dots_utf8
condition_utf8 (Some t) h = IsUtf8-append (codes "...on ") t on_utf8 (name_utf8 t h)

nodes_utf8 : (s : Nodes) → SoundNodes s → AreUtf8 (node_texts s)
nodes_utf8 end h = tt
nodes_utf8 (field r n xs ds c of s p rest) h =
    let set : Text = enclose_some 123 32 125 (node_texts s) in (
      IsUtf8-append (name_text r n ++ arguments_text xs ++ directives_text ds) set
          (IsUtf8-append (name_text r n ++ arguments_text xs) (directives_text ds)
          (IsUtf8-append (name_text r n) (arguments_text xs) (head_utf8 (bytes_eq r n) r n (name_utf8 r h.0) (name_utf8 n h.1)) (arguments_utf8 xs h.2)) (directives_utf8 ds h.3))
          (enclose_some_utf8 123 32 125 (node_texts s) (lit< tt) (lit< tt) (lit< tt) (nodes_utf8 s h.4)),
      nodes_utf8 rest h.5,
    )
nodes_utf8 (inline o ds s p rest) h = (
  IsUtf8-append (condition_text o ++ directives_text ds) (enclose 123 32 125 (node_texts s))
      (IsUtf8-append (condition_text o) (directives_text ds) (condition_utf8 o h.0) (directives_utf8 ds h.1))
      (enclose_utf8 123 32 125 (node_texts s) (lit< tt) (lit< tt) (lit< tt) (nodes_utf8 s h.3)),
  nodes_utf8 rest h.4,
)

-- ---- operations

default_utf8 : (d : Option ValueTree) → SoundDefault d → IsUtf8 (default_text (option_map value_of d))
default_utf8 None h = no_text
default_utf8 (Some v) h = put_ascii 61 (value_text (value_of v)) (lit< tt) (value_utf8 (value_of v) h)

variable_utf8 : (v : VariableDef) → SoundVariable v → IsUtf8 (variable_text v)
variable_utf8 v h =
    let typed : Text = type_text (ty_of v.of) ++ default_text (option_map value_of v.default) ++ directives_text v.directives in
    put_ascii 36 (v.name ++ 58 ∷ typed) (lit< tt)
    (IsUtf8-append v.name (58 ∷ typed) (name_utf8 v.name h.0.0)
    (put_ascii 58 typed (lit< tt)
    (IsUtf8-append (type_text (ty_of v.of) ++ default_text (option_map value_of v.default)) (directives_text v.directives)
    (IsUtf8-append (type_text (ty_of v.of)) (default_text (option_map value_of v.default)) (type_utf8 (ty_of v.of) h.0.1) (default_utf8 v.default h.1))
    (directives_utf8 v.directives h.2))))

variable_texts : (vs : List VariableDef) → AllByRecursion SoundVariable vs → AreUtf8 (map variable_text vs)
variable_texts [] h = tt
variable_texts (v ∷ vs) h = (variable_utf8 v h.0, variable_texts vs h.1)

kind_utf8 : (k : Kind) → IsUtf8 (kind_word k)
kind_utf8 Query = name_utf8 (codes "query") refl
kind_utf8 Mutation = name_utf8 (codes "mutation") refl
kind_utf8 Subscription = name_utf8 (codes "subscription") refl

pub operation_utf8 : (e : Expanded) → IsName e.name → AllByRecursion SoundVariable e.variables → SoundDirectives e.directives → SoundNodes e.selections → IsUtf8 (operation_text e)
operation_utf8 e n v d s =
    let kind : Kind = unwrap_or e.kind Query in
    let variables : Text = variables_text (used_variables e) in
    let directives : Text = directives_text e.directives in
    let set : Text = enclose 123 32 125 (node_texts e.selections) in
    let used = all-filter SoundVariable _ e.variables v in
    IsUtf8-append (kind_word kind) (32 ∷ (e.name ++ variables ++ directives ++ set)) (kind_utf8 kind)
    (put_ascii 32 (e.name ++ variables ++ directives ++ set) (lit< tt)
    (IsUtf8-append (e.name ++ variables ++ directives) set
    (IsUtf8-append (e.name ++ variables) directives
    (IsUtf8-append e.name variables (name_utf8 e.name n)
    (enclose_some_utf8 40 44 41 (map variable_text (used_variables e)) (lit< tt) (lit< tt) (lit< tt) (variable_texts (used_variables e) used)))
    (directives_utf8 e.directives d))
    (enclose_utf8 123 32 125 (node_texts e.selections) (lit< tt) (lit< tt) (lit< tt) (nodes_utf8 e.selections s))))
