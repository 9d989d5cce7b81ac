-- A value that is written is read back: its text has the tokens of the printed value.
use Rattle.std.proofs.Common.{◌≡◌, ℕ, suc, ◌+◌, Bool, true, false, List, [], ◌∷◌, ◌++◌, length, map, get_or, Option, Some, None, option_map, Ordering, Less, Equal, Greater, nat_cmp, pos, negsuc, ℤ, refl, sym, ap, subst, ◌∙◌, arith}
use Rattle.std.specs.Cmp.Lexicographic.{slice_cmp}
use Rattle.std.specs.List.{AllByRecursion}
use Rattle.std.specs.Ordering.{match_ordering}
use Rattle.plan_ir.specs.gql_ast.Value.{Val, Vals, Members, variable, int, text, truth, null, enum, list, object, no_vals, val, no_members, member, members_of}
use Rattle.plan_ir.specs.gql_lex.Toks as tok
use Rattle.plan_ir.specs.gql_lex.Toks.{Tok, tokens_of}
use Rattle.plan_ir.proofs.gql_syntax_laws.BuiltTrees.{pairs_of-members_of}
use Rattle.plan_ir.specs.gql_syntax.Built.{pairs_of}
use Rattle.plan_ir.specs.gql_syntax.Formed.{FormedArguments, FormedMembers, FormedValue, FormedValues}
use Rattle.plan_ir.specs.gql_syntax.Spelling.{Mark, spell_arguments, spell_members, spell_value, spell_values}
use Rattle.plan_ir.specs.gql_syntax.Words.{IsInt, IsName, null_word, truth_word}
use Rattle.plan_ir.specs.OperationText.{arguments_text, by_name, enclose, join_texts, member_texts, pairs_text, value_text, value_texts, with_member}
use Rattle.plan_ir.specs.Substitution.{Arguments}
use Rattle.plan_text.proofs.Ints.{IsInRange64, int_read}
use Rattle.plan_text.proofs.Naming.{arguments_told, by_name-map, length-with_member}
use Rattle.plan_text.proofs.Quoted.{text_read}
use Rattle.plan_text.proofs.ReadBack.{comma_read}
use Rattle.plan_text.proofs.Spelling.{IsFree, Opens, Reads, behind_reads, close_brace_stands, close_bracket_stands, close_paren_stands, colon_stands, dollar_stands, enclosed_reads, ends_of, free_quote, joined_reads, name_reads, nothing_reads, open_brace_stands, open_bracket_stands, open_paren_stands, then_reads}
use Rattle.plan_text.specs.Pairs.{named_texts}
use Rattle.plan_collect.specs.Printed.{printed_arguments, printed_members, printed_pair, printed_value, printed_values}
use Rattle.plan_ir.specs.schema_tables.Types.{Text}

abbrev pub mark : Mark Tok
mark = λ t l n. t

in_range : (z : ℤ) → IsInt z → IsInRange64 z
in_range (pos n) h = omega (arith, h.sfits)
in_range (negsuc n) h = omega (arith, h.sfits)

truth_is_name : (b : Bool) → IsName (truth_word b)
truth_is_name true = refl
truth_is_name false = refl

-- ---- pairs

-- the name is a Name, and the text of the value is read back
abbrev ReadsPair : Text × Val → Type 0
ReadsPair x = IsName x.0 × ((around : ℕ) → Reads (value_text x.1) (λ ts. spell_value mark (printed_value x.1) around ts))

abbrev told : Text × Val → Text
told x = x.0 ++ 58 ∷ value_text x.1

pair_reads : (x : Text × Val) (around : ℕ) → ReadsPair x → Reads (told x) (λ ts. tok.name x.0 ∷ tok.colon ∷ spell_value mark (printed_value x.1) around ts)
pair_reads x around h =
    then_reads x.0 (58 ∷ value_text x.1) (λ ts. tok.name x.0 ∷ ts) (λ ts. tok.colon ∷ spell_value mark (printed_value x.1) around ts) (name_reads x.0 h.0)
    (behind_reads 58 tok.colon colon_stands (value_text x.1) (λ ts. spell_value mark (printed_value x.1) around ts) (h.1 around)) (λ r free. refl)

pairs_read : (xs : Arguments) (around : ℕ) → AllByRecursion ReadsPair xs → Reads (join_texts 44 (map told xs)) (λ ts. spell_members mark (members_of (map printed_pair xs)) around ts)
pairs_read [] around h = nothing_reads
pairs_read (x ∷ []) around h = pair_reads x around h.0
pairs_read (x ∷ y ∷ ys) around h =
    joined_reads 44 comma_read refl (told x) (told y) (map told ys) (λ ts. tok.name x.0 ∷ tok.colon ∷ spell_value mark (printed_value x.1) around ts)
    (λ ts. spell_members mark (members_of (map printed_pair (y ∷ ys))) around ts) (pair_reads x around h.0) (pairs_read (y ∷ ys) around h.1)

pub all-with_member : (P : Text × Val → Type 0) (x : Text × Val) (xs : Arguments) → P x → AllByRecursion P xs → AllByRecursion P (with_member x xs)
all-with_member P x [] px all = (px, tt)
all-with_member P x (y ∷ ys) px all = on (all-with_member P x ys px all.1) (slice_cmp nat_cmp x.0 y.0)
  where
    on : AllByRecursion P (with_member x ys) → (o : Ordering) → AllByRecursion P (match_ordering o (x ∷ y ∷ ys) (x ∷ y ∷ ys) (y ∷ with_member x ys))
    on rest Less = (px, all)
    on rest Equal = (px, all)
    on rest Greater = (all.0, rest)

pub all-by_name : (P : Text × Val → Type 0) (xs : Arguments) → AllByRecursion P xs → AllByRecursion P (by_name xs)
all-by_name P [] all = tt
all-by_name P (x ∷ xs) all = all-with_member P x (by_name xs) all.0 (all-by_name P xs all.1)

map_told : (xs : Arguments) → map told xs ≡ map (λ m. m.0 ++ 58 ∷ m.1) (named_texts xs)
map_told [] = refl
map_told (x ∷ xs) = ap (λ ts. told x ∷ ts) (map_told xs)

-- names and values that are put in order are read back in this order
sorted_read : (xs : Arguments) (around : ℕ) → AllByRecursion ReadsPair xs
    → Reads (join_texts 44 (pairs_text (named_texts xs))) (λ ts. spell_members mark (members_of (printed_arguments xs)) around ts)
sorted_read xs around h =
    let read = pairs_read (by_name xs) around (all-by_name ReadsPair xs h) in
    let texts : map told (by_name xs) ≡ pairs_text (named_texts xs) =
    map_told (by_name xs) ∙ ap (λ (ms : List (Text × Text)). map (λ m. m.0 ++ 58 ∷ m.1) ms) (sym (by_name-map value_text xs)) in
    let values : map printed_pair (by_name xs) ≡ printed_arguments xs = sym (by_name-map printed_value xs) in
    λ r free.
    ap (λ ts. tokens_of (join_texts 44 ts ++ r)) (sym texts) ∙ read r free
    ∙ ap (λ ms. option_map (λ ts. spell_members mark (members_of ms) around ts) (tokens_of r)) values

texts_of_members : (ms : Members) → member_texts ms ≡ named_texts (pairs_of ms)
texts_of_members no_members = refl
texts_of_members (member n v ms) = ap (λ ts. (n, value_text v) ∷ ts) (texts_of_members ms)

values_of_members : (ms : Members) → printed_members ms ≡ map printed_pair (pairs_of ms)
values_of_members no_members = refl
values_of_members (member n v ms) = ap (λ ts. (n, printed_value v) ∷ ts) (values_of_members ms)

object_reads : (ms : Members) (around : ℕ) → AllByRecursion ReadsPair (pairs_of ms)
    → Reads (value_text (object ms)) (λ ts. spell_value mark (printed_value (object ms)) around ts)
object_reads ms around h =
    let read = enclosed_reads 123 125 tok.open_brace tok.close_brace open_brace_stands close_brace_stands refl
    (join_texts 44 (pairs_text (named_texts (pairs_of ms)))) (λ ts. spell_members mark (members_of (printed_arguments (pairs_of ms))) (around + 1) ts) (sorted_read (pairs_of ms) (around + 1) h) in
    λ r free.
    ap (λ xs. tokens_of (enclose 123 44 125 (pairs_text xs) ++ r)) (texts_of_members ms) ∙ read r free
    ∙ ap (λ xs. option_map (λ ts. tok.open_brace ∷ spell_members mark (members_of (by_name xs)) (around + 1) (tok.close_brace ∷ ts)) (tokens_of r)) (sym (values_of_members ms))

-- ---- values

mutual
  pub value_reads : (constant : Bool) (v : Val) (around : ℕ) → FormedValue constant v → Reads (value_text v) (λ ts. spell_value mark (printed_value v) around ts)
  value_reads c (variable n) around h = behind_reads 36 tok.dollar dollar_stands n (λ ts. tok.name n ∷ ts) (name_reads n h.1)
  value_reads c (int z) around h = λ r free. int_read z r (in_range z h) (ends_of r free)
  value_reads c (text t) around h = λ r free. text_read t r (free_quote (get_or r 0 0) free)
  value_reads c (truth b) around h = name_reads (truth_word b) (truth_is_name b)
  value_reads c null around h = name_reads null_word refl
  value_reads c (enum n) around h = name_reads n h.0
  value_reads c (list vs) around h =
      enclosed_reads 91 93 tok.open_bracket tok.close_bracket open_bracket_stands close_bracket_stands refl
      (join_texts 44 (value_texts vs)) (λ ts. spell_values mark (printed_values vs) (around + 1) ts) (values_read c vs (around + 1) h)
  value_reads c (object ms) around h = object_reads ms around (members_read c ms h)

  values_read : (constant : Bool) (vs : Vals) (around : ℕ) → FormedValues constant vs → Reads (join_texts 44 (value_texts vs)) (λ ts. spell_values mark (printed_values vs) around ts)
  values_read c no_vals around h = nothing_reads
  values_read c (val v no_vals) around h = value_reads c v around h.0
  values_read c (val v (val w ws)) around h =
      joined_reads 44 comma_read refl (value_text v) (value_text w) (value_texts ws) (λ ts. spell_value mark (printed_value v) around ts)
      (λ ts. spell_values mark (printed_values (val w ws)) around ts) (value_reads c v around h.0) (values_read c (val w ws) around h.1)

  members_read : (constant : Bool) (ms : Members) → FormedMembers constant ms → AllByRecursion ReadsPair (pairs_of ms)
  members_read c no_members h = tt
  members_read c (member n v ms) h = ((h.0, λ around. value_reads c v around h.1), members_read c ms h.2)

-- ---- arguments

spell_some : (ys : Arguments) (n : ℕ) → length ys ≡ suc n
    → (ts : List Tok) → spell_arguments mark ys ts ≡ tok.open_paren ∷ spell_members mark (members_of ys) 0 (tok.close_paren ∷ ts)
spell_some [] n long ts = absurd (omega (arith, long))
spell_some (y ∷ ys) n long ts = refl

option_same : (f g : List Tok → List Tok) → ((ts : List Tok) → f ts ≡ g ts) → (o : Option (List Tok)) → option_map f o ≡ option_map g o
option_same f g same None = refl
option_same f g same (Some ts) = ap Some (same ts)

pub arguments_read : (constant : Bool) (xs : Arguments) → FormedArguments constant xs → Reads (arguments_text xs) (λ ts. spell_arguments mark (printed_arguments xs) ts)
arguments_read c [] h = nothing_reads
arguments_read c (x ∷ xs) h =
    let all : AllByRecursion ReadsPair (x ∷ xs) = subst (λ ys. AllByRecursion ReadsPair ys) (pairs_of-members_of (x ∷ xs)) (members_read c (members_of (x ∷ xs)) h) in
    let read = enclosed_reads 40 41 tok.open_paren tok.close_paren open_paren_stands close_paren_stands refl
    (join_texts 44 (pairs_text (named_texts (x ∷ xs)))) (λ ts. spell_members mark (members_of (printed_arguments (x ∷ xs))) 0 ts) (sorted_read (x ∷ xs) 0 all) in
    λ r free.
    ap (λ t. tokens_of (t ++ r)) (arguments_told (x ∷ xs) (λ e. cc)) ∙ read r free
    ∙ option_same (λ ts. tok.open_paren ∷ spell_members mark (members_of (printed_arguments (x ∷ xs))) 0 (tok.close_paren ∷ ts)) (λ ts. spell_arguments mark (printed_arguments (x ∷ xs)) ts)
    (λ ts. sym (spell_some (printed_arguments (x ∷ xs)) (length (printed_arguments xs)) (length-with_member (printed_pair x) (printed_arguments xs)) ts)) (tokens_of r)

pub arguments_open : (xs : Arguments) → Opens (arguments_text xs)
arguments_open [] r free = free
arguments_open (x ∷ xs) r free = subst (λ t. IsFree (t ++ r)) (sym (arguments_told (x ∷ xs) (λ e. cc))) refl
