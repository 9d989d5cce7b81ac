-- The first fault of a text: it lies behind tokens with which a text of the grammar begins, and its own token, or the end,
-- makes that impossible, or opens one more of what stands in one another than may.
use Rattle.std.specs.Prelude.{◌≡◌, ◌≤◌, ◌<◌, ◌⊎◌, ℕ, List, [], ◌∷◌, ◌++◌, length, take, slice_index}
use Rattle.std.specs.List.{AllByRecursion}
use Rattle.gql_lex.specs.Sources.{Source, ended, faulty, token}
use Rattle.gql_lex.specs.Toks.{Tok, tok_of_piece}
use Rattle.gql_syntax.specs.Run.{code_of, unexpected, too_deep}

-- how the trees of a grammar are written: their tokens, the number of what each token opens (0 where it opens nothing
-- that is counted), and which trees are texts
pub record Grammar (V : Type 0) : Type 1 where
  pub tokens : V → List Tok
  pub levels : V → List ℕ
  pub Formed : V → Type 0

-- the source has these tokens, and then that rest
abbrev pub Leads : List Tok → (from to : Source) → Type 0
Leads [] from to = from ≡ to
Leads (t ∷ ts) ended to = ⊥
Leads (t ∷ ts) (faulty code at) to = ⊥
Leads (t ∷ ts) (token p rest) to = (tok_of_piece p ≡ t) × Leads ts rest to

-- the tree is written with these tokens
pub record Spells {V : Type 0} (g : Grammar V) (ts : List Tok) (v : V) : Type 0 where
  pub spelled : g.tokens v ≡ ts
  pub formed : g.Formed v

abbrev pub Shallow : (limit : ℕ) → List ℕ → Type 0
Shallow limit levels = AllByRecursion (λ l. l ≤ limit) levels

-- a tree whose text begins with these tokens, none of which opens too much
pub record Begins {V : Type 0} (g : Grammar V) (limit : ℕ) (ts : List Tok) : Type 0 where
  pub behind : List Tok
  pub tree : V
  pub spells : Spells g (ts ++ behind) tree
  pub shallow : Shallow limit (take (length ts) (g.levels tree))

-- no text begins with these tokens and that one
abbrev pub Unexpected : {V : Type 0} → Grammar V → List Tok → Tok → Type 0
Unexpected {V = V} g ts t = (behind : List Tok) (v : V) → Spells g (ts ++ t ∷ behind) v → ⊥

-- texts begin so, and in each of them that token opens one too many
pub record TooDeep {V : Type 0} (g : Grammar V) (limit : ℕ) (ts : List Tok) (t : Tok) : Type 0 where
  pub behind : List Tok
  pub tree : V
  pub spells : Spells g (ts ++ t ∷ behind) tree
  pub deep : (more : List Tok) (v : V) → Spells g (ts ++ t ∷ more) v → limit < slice_index (g.levels v) (length ts)

-- the fault behind these tokens, by what lies ahead of them: the end comes too early, at the offset `size`; a token that is
-- none; or a token that may not stand there
abbrev pub FaultAhead : {V : Type 0} → Grammar V → (limit size : ℕ) → List Tok → Source → (code at : ℕ) → Type 0
FaultAhead {V = V} g limit size ts ended code at = (code ≡ code_of unexpected) × (at ≡ size) × ((v : V) → Spells g ts v → ⊥)
FaultAhead g limit size ts (faulty c a) code at = (code ≡ c) × (at ≡ a)
FaultAhead g limit size ts (token p rest) code at =
    (at ≡ p.start) × (((code ≡ code_of unexpected) × Unexpected g ts (tok_of_piece p)) ⊎ ((code ≡ code_of too_deep) × TooDeep g limit ts (tok_of_piece p)))

pub record IsFirstFault {V : Type 0} (g : Grammar V) (limit size : ℕ) (source : Source) (code at : ℕ) : Type 0 where
  pub read : List Tok
  pub rest : Source
  pub leads : Leads read source rest
  pub begins : Begins g limit read
  pub fault : FaultAhead g limit size read rest code at
