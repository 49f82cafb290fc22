-- What a call leaves: the reference that it gave leads to the diagram of the function that it worked, every reference of
-- before leads to what it led to, and two references to the diagram of one function are the same. Assumes nothing.
use Prim.Native.Nat.{ℕ, ◌+◌, ◌<◌}
use mathlib.Core.Path.{◌≡◌, refl, sym, ap, ap₂, ◌∙◌}
use mathlib.Core.Bool.{not, ◌&&◌, ◌||◌}
use native.Mathlib.Omega.{arith}
use Rattle.trees.specs.Bits.{Function, Same, Asks, drop, drops}
use Rattle.trees.specs.Tree.{Tree, eval, tree_of, not_t, since_t, drop_t}
use Rattle.trees.specs.Table.{at}
use Rattle.trees.proofs.BitsLaws.{asks_drop, drop_same}
use Rattle.trees.proofs.TreeLaws.{asks_eval, fine_lower}
use Rattle.trees.proofs.FunctionLaws.{eval_of, tree_one, tree_same}
use Rattle.nodes.specs.Nodes.{Table}
use Rattle.nodes.proofs.ReadLaws.{grown_count, grown_ref}
use Rattle.making.proofs.WalkLaws.{kept}
use Rattle.laws.specs.Calls.{Held, tree, Input, Call, AndCall, OrCall, NotCall, DropCall, DropCalls, none, more}

-- p leads to the diagram of g over the levels
pub record Leads (levels : ℕ) (x : Held) (g : Function) (p : ℕ) : Type 0 where
  pub table : Table x.nodes x.count
  pub below : p < x.count + 2
  pub asks : Asks 0 levels g
  pub is : tree x p ≡ tree_of levels g

module _ {levels : ℕ} where
  -- the function whose diagram it is
  abbrev pub said : {x : Held} {g : Function} {p : ℕ} → Leads levels x g p → Function
  said {g = g} l = g

  -- two references to the diagram of one function
  pub one_reference : {x : Held} {f g : Function} {r s : ℕ} → Leads levels x f r → Leads levels x g s → Same f g → r ≡ s
  one_reference {r = r} {s = s} a b e = a.table.one r s a.below b.below (a.is ∙ tree_same levels _ _ e ∙ sym b.is)

  -- well-formed input leads to the diagram of what it says
  pub input_leads : {x : Held} {p : ℕ} → Input levels x p → Leads levels x (eval (tree x p)) p
  input_leads {x} {p} i =
      let f = fine_lower _ levels 0 (tree x p) (omega arith) i.within.fine in
      let a = asks_eval 0 levels (tree x p) f in
      record { table = i.table; below = i.within.below; asks = a; is = sym (tree_one levels (eval (tree x p)) a (tree x p) f (λ s. refl)) }

  -- what its reference leads to says what the function says
  leads_says : {x : Held} {g : Function} {p : ℕ} → Leads levels x g p → Same (eval (tree x p)) g
  leads_says {g = g} l s = ap (λ (d : Tree). eval d s) l.is ∙ eval_of levels g l.asks s

  -- a reference of before leads to what it led to
  pub later : {x y : Held} {d : Tree} {r p : ℕ} {g : Function} → Call levels x d y r → Leads levels x g p → Leads levels y g p
  later {p = p} c l =
      let w = c.added.0 in
      record { table = w.table; below = omega (arith, l.below, grown_count w); asks = l.asks; is = kept w p l.below ∙ l.is }

  -- the reference of a call's result
  leads_call : {x y : Held} {r : ℕ} (f g : Function) → Call levels x (tree_of levels f) y r → Same f g → Asks 0 levels g → Leads levels y g r
  leads_call f g c e a = let w = c.added.0 in record { table = w.table; below = grown_ref w; asks = a; is = w.ref.is ∙ tree_same levels f g e }

  -- and, or, not, one bit removed: from the diagrams of functions to the diagram of theirs
  pub and_leads : {x y : Held} {p q r : ℕ} {f g : Function} → AndCall levels x p q y r → Leads levels x f p → Leads levels x g q → Leads levels y (λ s. f s && g s) r
  unfolding since_t eval at
  and_leads c a b = leads_call _ _ c.2 (λ s. ap₂ ◌&&◌ (leads_says a s) (leads_says b s)) (record { only = λ s t e. ap₂ ◌&&◌ (a.asks.only s t e) (b.asks.only s t e) })

  pub or_leads : {x y : Held} {p q r : ℕ} {f g : Function} → OrCall levels x p q y r → Leads levels x f p → Leads levels x g q → Leads levels y (λ s. f s || g s) r
  unfolding since_t eval at
  or_leads c a b = leads_call _ _ c.2 (λ s. ap₂ ◌||◌ (leads_says a s) (leads_says b s)) (record { only = λ s t e. ap₂ ◌||◌ (a.asks.only s t e) (b.asks.only s t e) })

  pub not_leads : {x y : Held} {p r : ℕ} {f : Function} → NotCall levels x p y r → Leads levels x f p → Leads levels y (λ s. not (f s)) r
  unfolding not_t
  not_leads c a = leads_call _ _ c.1 (λ s. ap not (leads_says a s)) (record { only = λ s t e. ap not (a.asks.only s t e) })

  drop_leads : (v : ℕ) {x y : Held} {p r : ℕ} {f : Function} → DropCall levels v x p y r → Leads levels x f p → Leads levels y (drop v f) r
  unfolding drop_t
  drop_leads v {f = f} c a = leads_call _ _ c.1 (drop_same v _ f (leads_says a)) (asks_drop 0 levels v f a.asks)

  -- several bits removed
  pub drops_input : {base bits : ℕ} {x y : Held} {p r : ℕ} → DropCalls levels base bits x p y r → Input levels x p
  drops_input (none i) = i
  drops_input (more c cs) = c.0

  pub drops_later : {base bits : ℕ} {x y : Held} {p r q : ℕ} {g : Function} → DropCalls levels base bits x p y r → Leads levels x g q → Leads levels y g q
  drops_later (none i) a = a
  drops_later (more c cs) a = drops_later cs (later c.1 a)

  pub drops_leads : {base bits : ℕ} {x y : Held} {p r : ℕ} {f : Function} → DropCalls levels base bits x p y r → Leads levels x f p → Leads levels y (drops base bits f) r
  unfolding drops
  drops_leads (none i) a = a
  drops_leads (more c cs) a = drops_leads cs (drop_leads _ c a)
