-- A text has at most one first fault, and none where it has a tree.
use Rattle.std.proofs.Common.{◌≡◌, ◌≤◌, ◌<◌, ◌⊎◌, ℕ, zero, suc, List, [], ◌∷◌, ◌++◌, length, take, Option, Some, None, refl, sym, ap, subst, inl, inr, ◌∙◌, arith, append_assoc, append-nil}
use Rattle.std.specs.Prelude.{slice_index}
use Rattle.gql_lex.specs.Lines.{place_at}
use Rattle.gql_lex.specs.Sources.{Source, Piece, ended, faulty, token, lex_from}
use Rattle.gql_lex.specs.Toks.{Tok, tok_of_piece, toks_of}
use Rattle.gql_ast.specs.declared.fault.ParseFault.TheVariants.{Syntax}
use Rattle.gql_ast.specs.declared.fault.SyntaxFault.{SyntaxFault}
use Rattle.gql_ast.specs.declared.place.FilePlace.{FilePlace}
use Rattle.gql_syntax.specs.FirstFault.{Grammar, Leads, Spells, Shallow, Begins, FaultAhead, IsFirstFault}
use Rattle.gql_syntax.specs.Run.{code_of, unexpected, too_deep}
use Rattle.gql_syntax.specs.Texts.{IsTree, NoText, FaultAtOffset, IsParseFault, nesting_limit}

-- the second tokens go on behind the first, over the token that lies ahead of these
abbrev Further : (ts us : List Tok) → (ahead : Source) → Type 0
Further ts us ahead = (p : Piece) × (after : Source) × (more : List Tok) × (ahead ≡ token p after) × (us ≡ ts ++ tok_of_piece p ∷ more)

compare : (ts us : List Tok) (from a b : Source) → Leads ts from a → Leads us from b → ((ts ≡ us) × (a ≡ b)) ⊎ (Further ts us a ⊎ Further us ts b)
compare [] [] from a b x y = inl (refl, sym x ∙ y)
compare [] (u ∷ us) ended a b x y = absurd y
compare [] (u ∷ us) (faulty c n) a b x y = absurd y
compare [] (u ∷ us) (token p rest) a b x y = inr (inl (p, rest, us, sym x, ap (λ t. t ∷ us) (sym y.0)))
compare (t ∷ ts) us ended a b x y = absurd x
compare (t ∷ ts) us (faulty c n) a b x y = absurd x
compare (t ∷ ts) [] (token p rest) a b x y = inr (inr (p, rest, ts, sym y, ap (λ u. u ∷ ts) (sym x.0)))
compare (t ∷ ts) (u ∷ us) (token p rest) a b x y =
    let same : t ≡ u = sym x.0 ∙ y.0 in
    elim (compare ts us rest a b x.1 y.1) [
      | inl e ↦ inl ((λ i. same i ∷ e.0 i), e.1)
      | inr h ↦ elim h [
        | inl f ↦ inr (inl (f.0, f.1, f.2, f.3, (λ i. sym same i ∷ f.4 i)))
        | inr f ↦ inr (inr (f.0, f.1, f.2, f.3, (λ i. same i ∷ f.4 i)))
      ]
    ]

shallow_at : (limit : ℕ) (ls : List ℕ) (k : ℕ) → Shallow limit ls → slice_index ls k ≤ limit
shallow_at limit [] k h = omega arith
shallow_at limit (l ∷ ls) zero h = h.0
shallow_at limit (l ∷ ls) (suc k) h = shallow_at limit ls k h.1

shallow_within : (limit : ℕ) (ls : List ℕ) (n k : ℕ) → k < n → Shallow limit (take n ls) → slice_index ls k ≤ limit
shallow_within limit [] n k h s = omega arith
shallow_within limit (l ∷ ls) zero k h s = absurd (omega (arith, h))
shallow_within limit (l ∷ ls) (suc n) zero h s = s.0
shallow_within limit (l ∷ ls) (suc n) (suc k) h s = shallow_within limit ls n k (omega (arith, h)) s.1

longer : (ts : List Tok) (t : Tok) (more : List Tok) → length ts < length (ts ++ t ∷ more)
longer [] t more = omega arith
longer (u ∷ ts) t more = let h = longer ts t more in omega (arith, h)

other_codes : code_of unexpected ≡ code_of too_deep → ⊥
other_codes h = omega (arith, h)

module _ {V : Type 0} (g : Grammar V) (limit size : ℕ) where
  -- texts begin with these tokens and that one, which is no fault
  goes_on : (ts more : List Tok) (p : Piece) (after : Source) (code at : ℕ) → FaultAhead g limit size ts (token p after) code at
      → Begins g limit (ts ++ tok_of_piece p ∷ more) → ⊥
  goes_on ts more p after code at f b =
      let spells : Spells g (ts ++ tok_of_piece p ∷ (more ++ b.behind)) b.tree =
      subst (λ w. Spells g w b.tree) (append_assoc ts (tok_of_piece p ∷ more) b.behind) b.spells in
      elim f.1 [
        | inl u ↦ u.1 (more ++ b.behind) b.tree spells
        | inr d ↦
            let deep : limit < slice_index (g.levels b.tree) (length ts) = d.1.deep (more ++ b.behind) b.tree spells in
            let within : slice_index (g.levels b.tree) (length ts) ≤ limit =
            shallow_within limit (g.levels b.tree) (length (ts ++ tok_of_piece p ∷ more)) (length ts) (longer ts (tok_of_piece p) more) b.shallow in
            omega (arith, deep, within)
      ]

  same_ahead : (ts : List Tok) (a : Source) (c n d m : ℕ) → FaultAhead g limit size ts a c n → FaultAhead g limit size ts a d m → (c ≡ d) × (n ≡ m)
  same_ahead ts ended c n d m x y = (x.0 ∙ sym y.0, x.1 ∙ sym y.1)
  same_ahead ts (faulty e k) c n d m x y = (x.0 ∙ sym y.0, x.1 ∙ sym y.1)
  same_ahead ts (token p after) c n d m x y = (
    elim x.1 [
      | inl u ↦ elim y.1 [ inl v ↦ u.0 ∙ sym v.0 | inr v ↦ absurd (u.1 v.1.behind v.1.tree v.1.spells) ]
      | inr u ↦ elim y.1 [ inl v ↦ absurd (v.1 u.1.behind u.1.tree u.1.spells) | inr v ↦ u.0 ∙ sym v.0 ]
    ],
    x.0 ∙ sym y.0,
  )

  pub one_first_fault : (source : Source) (c n d m : ℕ) → IsFirstFault g limit size source c n → IsFirstFault g limit size source d m → (c ≡ d) × (n ≡ m)
  one_first_fault source c n d m x y = elim (compare x.read y.read source x.rest y.rest x.leads y.leads) [
    | inl e ↦
        let P : List Tok → Source → Type 0 = λ ts a. FaultAhead g limit size ts a d m in
        same_ahead x.read x.rest c n d m x.fault (subst (λ a. P x.read a) (sym e.1) (subst (λ ts. P ts y.rest) (sym e.0) y.fault))
    | inr h ↦ elim h [
      | inl f ↦ absurd (goes_on x.read f.2 f.0 f.1 c n (subst (λ a. FaultAhead g limit size x.read a c n) f.3 x.fault) (subst (λ ts. Begins g limit ts) f.4 y.begins))
      | inr f ↦ absurd (goes_on y.read f.2 f.0 f.1 d m (subst (λ a. FaultAhead g limit size y.read a d m) f.3 y.fault) (subst (λ ts. Begins g limit ts) f.4 x.begins))
    ]
  ]

  -- the tokens of the whole source lead to its end over all that lies between
  rest_tokens : (ts : List Tok) (from a : Source) (all : List Tok) → Leads ts from a → toks_of from ≡ Some all → (behind : List Tok) × (all ≡ ts ++ behind) × (toks_of a ≡ Some behind)
  rest_tokens [] from a all x e = (all, refl, ap toks_of (sym x) ∙ e)
  rest_tokens (t ∷ ts) ended a all x e = absurd x
  rest_tokens (t ∷ ts) (faulty c n) a all x e = absurd x
  rest_tokens (t ∷ ts) (token p rest) a all x e = on (toks_of rest) refl e (λ us h. rest_tokens ts rest a us x.1 h)
    where
      on : (o : Option (List Tok)) → toks_of rest ≡ o → toks_of (token p rest) ≡ Some all
          → ((us : List Tok) → toks_of rest ≡ Some us → (behind : List Tok) × (us ≡ ts ++ behind) × (toks_of a ≡ Some behind))
          → (behind : List Tok) × (all ≡ (t ∷ ts) ++ behind) × (toks_of a ≡ Some behind)
      on None h e next = absurd (cc)
      on (Some us) h e next =
          let r = next us h in
          let whole : tok_of_piece p ∷ us ≡ all = cc in
          (r.0, sym whole ∙ (λ i. x.0 i ∷ r.1 i), r.2)

  pub no_fault_of_tree : (source : Source) (v : V) (c n : ℕ) → toks_of source ≡ Some (g.tokens v) → g.Formed v → Shallow limit (g.levels v)
      → IsFirstFault g limit size source c n → ⊥
  no_fault_of_tree source v c n e formed shallow f = on f.rest (rest_tokens f.read source f.rest (g.tokens v) f.leads e) f.fault
    where
      on : (a : Source) → (behind : List Tok) × (g.tokens v ≡ f.read ++ behind) × (toks_of a ≡ Some behind) → FaultAhead g limit size f.read a c n → ⊥
      on ended r x =
          let none : [] ≡ r.0 = cc in
          x.2 v (record { spelled = r.1 ∙ ap (λ b. f.read ++ b) (sym none) ∙ append-nil f.read; formed = formed })
      on (faulty k m) r x = cc
      on (token p rest) r x = by (toks_of rest) refl
        where
          by : (o : Option (List Tok)) → toks_of rest ≡ o → ⊥
          by None h = cc
          by (Some us) h =
              let whole : tok_of_piece p ∷ us ≡ r.0 = cc in
              let spells : Spells g (f.read ++ tok_of_piece p ∷ us) v = record { spelled = r.1 ∙ ap (λ b. f.read ++ b) (sym whole); formed = formed } in
              elim x.1 [
                | inl u ↦ u.1 us v spells
                | inr d ↦
                    let deep : limit < slice_index (g.levels v) (length f.read) = d.1.deep us v spells in
                    let within = shallow_at limit (g.levels v) (length f.read) shallow in
                    omega (arith, deep, within)
              ]

module _ {V : Type 0} (g : Grammar V) where
  -- a text with a tree has no fault
  pub no_parse_fault : (nodes : V → List ℕ) (file : ℕ) (text : List ℕ) (v : V) (places : List FilePlace) (s : SyntaxFault) → IsTree g nodes file text v places
      → IsParseFault g file text (Syntax s) → ⊥
  no_parse_fault nodes file text v places s t f = elim f.1 [
    | inl x ↦ x.utf8 t.utf8
    | inr x ↦ no_fault_of_tree g nesting_limit (length text) (lex_from 0 text) v s.code x.at t.tokens t.formed t.shallow x.first
  ]

  same_places : (file : ℕ) (text : List ℕ) (s r : SyntaxFault) → NoText text s ⊎ FaultAtOffset g text s → NoText text r ⊎ FaultAtOffset g text r
      → (s.line ≡ r.line) × (s.column ≡ r.column) × (s.code ≡ r.code)
  same_places file text s r x y = elim x [
    | inl a ↦ elim y [ inl b ↦ (a.line ∙ sym b.line, a.column ∙ sym b.column, a.code ∙ sym b.code) | inr b ↦ absurd (a.utf8 b.utf8) ]
    | inr a ↦ elim y [
      | inl b ↦ absurd (b.utf8 a.utf8)
      | inr b ↦
          let e = one_first_fault g nesting_limit (length text) (lex_from 0 text) s.code a.at r.code b.at a.first b.first in
          (a.line ∙ ap (λ n. (place_at text n).line) e.1 ∙ sym b.line, a.column ∙ ap (λ n. (place_at text n).column) e.1 ∙ sym b.column, e.0)
    ]
  ]

  -- a text has at most one fault
  pub one_parse_fault : (file : ℕ) (text : List ℕ) (s r : SyntaxFault) → IsParseFault g file text (Syntax s) → IsParseFault g file text (Syntax r)
      → (s.file ≡ r.file) × (s.line ≡ r.line) × (s.column ≡ r.column) × (s.code ≡ r.code)
  one_parse_fault file text s r x y =
      let rest = same_places file text s r x.1 y.1 in
      (x.0 ∙ sym y.0, rest.0, rest.1, rest.2)
