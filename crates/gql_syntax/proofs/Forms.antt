-- The forms of tokens: in a text each name is a Name, and each Int lies within its bounds. A tree of the right shape that is
-- written with such tokens is formed.
use Rattle.std.proofs.Common.{◌≡◌, ℕ, zero, suc, ◌+◌, ◌-◌, ◌^◌, Bool, true, false, cond, leb, ltb, List, [], ◌∷◌, ◌++◌, length, option_map, Option, Some, None, pos, neg_ℤ, IsUtf8, refl, subst, arith}
use Rattle.std.proofs.lemmas.Bool.{leb-true, ltb-true}
use Rattle.std.proofs.lemmas.List.{take_all}
use Rattle.std.specs.List.{AllByRecursion}
use Rattle.gql_lex.specs.declared.tokens.TokenKind.{TokenKind}
use Rattle.gql_lex.specs.declared.tokens.TokenKind.TheVariants as kind
use Rattle.gql_lex.specs.Descriptions.{Describes}
use Rattle.gql_lex.specs.Heads.{IsToken}
use Rattle.gql_lex.specs.Numbers.{is_negative, magnitude}
use Rattle.gql_lex.specs.Sources.{Source, ended, faulty, token, lex_from}
use Rattle.gql_lex.specs.Toks as tok
use Rattle.gql_lex.specs.Toks.{Tok, tok_of, tok_of_piece, toks_of, punctuator_of}
use Rattle.gql_lex.proofs.Gaps.{describes}
use Rattle.gql_lex.proofs.LongestToken.{longest_token}
use Rattle.gql_lex.proofs.TokenTexts.{int_text}
use Rattle.gql_ast.specs.Ty as ty
use Rattle.gql_ast.specs.Ty.{Ty}
use Rattle.gql_ast.specs.Value.{Val, Vals, Members, variable, int, text, truth, null, enum, list, object, no_vals, val, no_members, member, members_of}
use Rattle.gql_ast.specs.ValueView.{value_of}
use Rattle.gql_ast.specs.declared.directive.Directive.{Directive}
use Rattle.gql_ast.specs.declared.value.ValueTree.{ValueTree}
use Rattle.gql_syntax.specs.FirstFault.{Leads}
use Rattle.gql_syntax.specs.Formed.{FormedValue, FormedValues, FormedMembers, FormedArguments, FormedDirectives, FormedDefault, FormedType}
use Rattle.gql_syntax.specs.Nexts.{is_punctuator}
use Rattle.gql_syntax.specs.Spelling.{spell_value, spell_values, spell_members, spell_arguments, spell_directives, spell_type, spell_default}
use Rattle.gql_syntax.specs.Words.{IsName, IsInt}
use Rattle.gql_syntax.proofs.Puncts.{punct_stands}
use Rattle.gql_syntax.proofs.Shapes.{ShapedValue, ShapedValues, ShapedMembers, ShapedArguments, ShapedDirectives, ShapedDefault, ShapedType}
use Rattle.gql_syntax.proofs.Tokens.{by_tok}

-- the token has the form of its kind
abbrev pub IsTok : Tok → Type 0
IsTok (tok.name n) = IsName n
IsTok (tok.int n) = IsInt n
IsTok t = Unit {0}

abbrev pub AreToks : List Tok → Type 0
AreToks ts = AllByRecursion IsTok ts

-- and so do all that lie ahead
abbrev pub AreAhead : Source → Type 0
AreAhead ended = Unit {0}
AreAhead (faulty code at) = Unit {0}
AreAhead (token p rest) = IsTok (tok_of_piece p) × AreAhead rest

pub toks-append : (ts us : List Tok) → AreToks ts → AreToks us → AreToks (ts ++ us)
toks-append [] us h k = k
toks-append (t ∷ ts) us h k = (h.0, toks-append ts us h.1 k)

-- an Int with which some texts end
pub zero_fits : IsInt (pos 0)
zero_fits = record { sfits = omega arith }

-- ---- the tokens of a text

punct_form : (t : Tok) → is_punctuator t ≡ true → IsTok t
punct_form t = by_tok (λ t. is_punctuator t ≡ true → IsTok t) (λ e. tt) (λ e. tt) (λ e. tt) (λ e. tt) (λ e. tt) (λ e. tt) (λ e. tt) (λ e. tt) (λ e. tt) (λ e. tt)
    (λ e. tt) (λ e. tt) (λ e. tt) (λ e. tt) (λ n e. absurd cc) (λ n e. absurd cc) (λ n e. tt) t

name_form : (bs : List ℕ) → IsToken kind.Name bs → IsName bs
unfolding IsToken
name_form bs e = subst IsName (take_all (length bs - 1 + 1) bs (omega arith)) (longest_token bs kind.Name (length bs - 1) e).0

fits : (negative : Bool) (m : ℕ) → cond negative (leb m (2 ^ 63)) (ltb m (2 ^ 63)) ≡ true → IsInt (cond negative (neg_ℤ (pos m)) (pos m))
fits true zero e = zero_fits
fits true (suc m) e = record { sfits = omega (arith, leb-true (suc m) (2 ^ 63) e) }
fits false m e = record { sfits = ltb-true m (2 ^ 63) e }

tok_form : (k : TokenKind) (bs : List ℕ) → IsToken k bs → IsTok (tok_of k bs)
tok_form kind.Punct bs e = punct_form (tok_of kind.Punct bs) (punct_stands bs e 0).1
tok_form kind.Name bs e = name_form bs e
tok_form kind.Int bs e = fits (is_negative bs) (magnitude bs) (int_text bs e).within
tok_form kind.Text bs e = tt
tok_form kind.Block bs e = tt

forms_ahead : (whole : List ℕ) (from : ℕ) (s : Source) → Describes whole from s → AreAhead s
forms_ahead whole from ended d = tt
forms_ahead whole from (faulty code at) d = tt
forms_ahead whole from (token p rest) d = (tok_form p.kind p.text d.0.form, forms_ahead whole p.end rest d.1)

pub forms : (whole : List ℕ) → IsUtf8 whole → AreAhead (lex_from 0 whole)
forms whole u = forms_ahead whole 0 (lex_from 0 whole) (describes whole u)

pub toks_form : (s : Source) (ts : List Tok) → AreAhead s → toks_of s ≡ Some ts → AreToks ts
toks_form ended ts h e = let same : [] ≡ ts = cc in subst AreToks same tt
toks_form (faulty code at) ts h e = absurd cc
toks_form (token p rest) ts h e = on_rest (toks_of rest) refl e (λ us e. toks_form rest us h.1 e)
  where
    on_rest : (o : Option (List Tok)) → toks_of rest ≡ o → option_map (λ ts. tok_of_piece p ∷ ts) o ≡ Some ts
        → ((us : List Tok) → toks_of rest ≡ Some us → AreToks us) → AreToks ts
    on_rest None d e next = absurd cc
    on_rest (Some us) d e next = let same : tok_of_piece p ∷ us ≡ ts = cc e in subst AreToks same (h.0, next us d)

pub read_form : (ts : List Tok) (from to : Source) → AreAhead from → Leads ts from to → AreToks ts
read_form [] from to h l = tt
read_form (t ∷ ts) ended to h l = absurd l
read_form (t ∷ ts) (faulty code at) to h l = absurd l
read_form (t ∷ ts) (token p rest) to h l = (subst IsTok l.0 h.0, read_form ts rest to h.1 l.1)

-- ---- trees that are written with such tokens

abbrev Written : (List Tok → List Tok) → Type 0 → Type 0
Written spell P = (ts : List Tok) → AreToks (spell ts) → P × AreToks ts

mutual
  pub value_forms : (c : Bool) (v : Val) (around : ℕ) → ShapedValue c v → Written (spell_value (λ t l n. t) v around) (FormedValue c v)
  value_forms c (variable n) around s ts h = ((s, h.1.0), h.1.1)
  value_forms c (int n) around s ts h = (h.0, h.1)
  value_forms c (text t) around s ts h = (tt, h.1)
  value_forms c (truth b) around s ts h = (tt, h.1)
  value_forms c null around s ts h = (tt, h.1)
  value_forms c (enum n) around s ts h = ((h.0, s), h.1)
  value_forms c (list vs) around s ts h = let r = values_forms c vs (around + 1) s (tok.close_bracket ∷ ts) h.1 in (r.0, r.1.1)
  value_forms c (object ms) around s ts h = let r = members_forms c ms (around + 1) s (tok.close_brace ∷ ts) h.1 in (r.0, r.1.1)

  pub values_forms : (c : Bool) (vs : Vals) (around : ℕ) → ShapedValues c vs → Written (spell_values (λ t l n. t) vs around) (FormedValues c vs)
  values_forms c no_vals around s ts h = (tt, h)
  values_forms c (val v vs) around s ts h =
      let a = value_forms c v around s.0 (spell_values (λ t l n. t) vs around ts) h in
      let b = values_forms c vs around s.1 ts a.1 in
      ((a.0, b.0), b.1)

  pub members_forms : (c : Bool) (ms : Members) (around : ℕ) → ShapedMembers c ms → Written (spell_members (λ t l n. t) ms around) (FormedMembers c ms)
  members_forms c no_members around s ts h = (tt, h)
  members_forms c (member n v ms) around s ts h =
      let a = value_forms c v around s.0 (spell_members (λ t l n. t) ms around ts) h.1.1 in
      let b = members_forms c ms around s.1 ts a.1 in
      ((h.0, a.0, b.0), b.1)

pub arguments_forms : (c : Bool) (xs : List (List ℕ × Val)) → ShapedArguments c xs → Written (spell_arguments (λ t l n. t) xs) (FormedArguments c xs)
arguments_forms c [] s ts h = (tt, h)
arguments_forms c (x ∷ xs) s ts h = let r = members_forms c (members_of (x ∷ xs)) 0 s (tok.close_paren ∷ ts) h.1 in (r.0, r.1.1)

pub directives_forms : (c : Bool) (ds : List Directive) → ShapedDirectives c ds → Written (spell_directives (λ t l n. t) ds) (FormedDirectives c ds)
directives_forms c [] s ts h = (tt, h)
directives_forms c (d ∷ ds) s ts h =
    let a = arguments_forms c d.arguments s.0 (spell_directives (λ t l n. t) ds ts) h.1.1 in
    let b = directives_forms c ds s.1 ts a.1 in
    (((h.1.0, a.0), b.0), b.1)

pub type_forms : (t : Ty) (around above : ℕ) → ShapedType t → Written (spell_type (λ t l n. t) t around above) (FormedType t)
type_forms (ty.named n) around above s ts h = (h.0, h.1)
type_forms (ty.list t) around above s ts h = let r = type_forms t (around + 1) 0 s (tok.close_bracket ∷ ts) h.1 in (r.0, r.1.1)
type_forms (ty.non_null t) around above s ts h = let r = type_forms t around (above + 1) s.1 (tok.bang ∷ ts) h in ((s.0, r.0), r.1.1)

pub default_forms : (d : Option ValueTree) → ShapedDefault d → Written (spell_default (λ t l n. t) d) (FormedDefault d)
default_forms None s ts h = (tt, h)
default_forms (Some v) s ts h = value_forms true (value_of v) 0 s ts h.1

-- ---- what is formed has the shape

mutual
  pub value_shape : (c : Bool) (v : Val) → FormedValue c v → ShapedValue c v
  value_shape c (variable n) f = f.0
  value_shape c (int n) f = tt
  value_shape c (text t) f = tt
  value_shape c (truth b) f = tt
  value_shape c null f = tt
  value_shape c (enum n) f = f.1
  value_shape c (list vs) f = values_shape c vs f
  value_shape c (object ms) f = members_shape c ms f

  pub values_shape : (c : Bool) (vs : Vals) → FormedValues c vs → ShapedValues c vs
  values_shape c no_vals f = tt
  values_shape c (val v vs) f = (value_shape c v f.0, values_shape c vs f.1)

  pub members_shape : (c : Bool) (ms : Members) → FormedMembers c ms → ShapedMembers c ms
  members_shape c no_members f = tt
  members_shape c (member n v ms) f = (value_shape c v f.1, members_shape c ms f.2)

pub arguments_shape : (c : Bool) (xs : List (List ℕ × Val)) → FormedArguments c xs → ShapedArguments c xs
arguments_shape c xs f = members_shape c (members_of xs) f

pub directives_shape : (c : Bool) (ds : List Directive) → FormedDirectives c ds → ShapedDirectives c ds
directives_shape c [] f = tt
directives_shape c (d ∷ ds) f = (arguments_shape c d.arguments f.0.1, directives_shape c ds f.1)

pub type_shape : (t : Ty) → FormedType t → ShapedType t
type_shape (ty.named n) f = tt
type_shape (ty.list t) f = type_shape t f
type_shape (ty.non_null t) f = (f.0, type_shape t f.1)

pub default_shape : (d : Option ValueTree) → FormedDefault d → ShapedDefault d
default_shape None f = tt
default_shape (Some v) f = value_shape true (value_of v) f
