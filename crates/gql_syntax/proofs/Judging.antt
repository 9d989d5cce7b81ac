-- What a parser tells of bytes that are a text, and of others.
use Rattle.std.proofs.Common.{◌≡◌, ◌⊎◌, ℕ, List, Err, IsUtf8, refl, sym, subst, inl, inr, arith}
use Rattle.gql_lex.specs.Sources.{Source, ended, faulty, token, lex_from}
use Rattle.gql_lex.specs.Toks.{Tok}
use Rattle.gql_ast.specs.declared.fault.ParseFault.{ParseFault}
use Rattle.gql_ast.specs.declared.fault.ParseFault.TheVariants.{Syntax, NoMemory}
use Rattle.gql_ast.specs.declared.fault.SyntaxFault.{SyntaxFault}
use Rattle.gql_syntax.specs.FirstFault.{Grammar, FaultAhead}
use Rattle.gql_syntax.specs.Texts.{nesting_limit, NoText, FaultAtOffset, not_utf8, no_text, TellsText, IsParseFault}
use Rattle.gql_syntax.proofs.LexFaults.{SourceCode, lexed_code, led_code}
use Rattle.gql_syntax.proofs.OneFault.{one_parse_fault}

pub tells_no_text : (T : Type 0) (file : ℕ) (bytes : List ℕ) (f : ParseFault) → f ≡ Syntax (no_text file) → (IsUtf8 bytes → ⊥) → TellsText {T = T} bytes (Err f)
tells_no_text T file bytes f e n = subst (λ f. TellsText {T = T} bytes (Err f)) (sym e) ((λ c. n), (λ n. refl))

module _ {V : Type 0} (g : Grammar V) where
  pub is_no_text : (file : ℕ) (bytes : List ℕ) → (IsUtf8 bytes → ⊥) → IsParseFault g file bytes (Syntax (no_text file))
  is_no_text file bytes n = (refl, inl (record { utf8 = n; code = refl; line = refl; column = refl }))

  other_code : (limit size : ℕ) (ts : List Tok) (ahead : Source) (code at : ℕ) → SourceCode ahead → FaultAhead g limit size ts ahead code at → code ≡ not_utf8 → ⊥
  other_code limit size ts ended code at c f e = let is : code ≡ 6 = f.0 in omega (arith, is, e)
  other_code limit size ts (faulty d a) code at c f e = let is : code ≡ d = f.0 in omega (arith, is, c, e)
  other_code limit size ts (token p rest) code at c f e = elim f.1 [
    | inl u ↦ (let is : code ≡ 6 = u.0 in omega (arith, is, e))
    | inr u ↦ (let is : code ≡ 8 = u.0 in omega (arith, is, e))
  ]

  pub tells_text : (T : Type 0) (file : ℕ) (text : List ℕ) (f : ParseFault) → IsUtf8 text → IsParseFault g file text f → TellsText {T = T} text (Err f)
  tells_text T file text NoMemory u h = u
  tells_text T file text (Syntax f) u h = ((λ e. absurd (of_text e h.1)), (λ n. absurd (n u)))
    where
      of_text : f.code ≡ not_utf8 → NoText text f ⊎ FaultAtOffset g text f → ⊥
      of_text e (inl x) = x.utf8 u
      of_text e (inr x) =
          other_code nesting_limit _ x.first.read x.first.rest f.code x.at
          (led_code x.first.read (lex_from 0 text) x.first.rest (lexed_code text) x.first.leads) x.first.fault e

  -- a text has at most one fault
  pub one_fault : (file : ℕ) (text : List ℕ) (s r : SyntaxFault) → IsParseFault g file text (Syntax s) → IsParseFault g file text (Syntax r) → s ≡ r
  one_fault file text s r x y =
      let e = one_parse_fault g file text s r x y in
      λ i. record { file = e.0 i; line = e.1 i; column = e.2 i; code = e.3 i }
