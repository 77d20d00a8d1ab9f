-- The queue of pending slots: a tournament tree in a flat list. The keys of the n slots stand first, then n pairs of a
-- key and a slot, one for each node. Leaf k is position n + k of the tree, the children of node j are positions 2j and
-- 2j + 1, and the root is position 1.
use Rattle.std.specs.Prelude.{◌≡◌, ◌⊎◌, ◌≢◌, Option, MatchOption, List, ℕ, zero, suc, ◌+◌, ◌*◌, ◌-◌, ◌%◌, ◌≤◌, ◌<◌, leb}
use Rattle.std.specs.Prelude.{ltb, eqb, length, get_or, set, if◌then◌else◌}
use Rattle.runner.specs.declared.queue.Entry.{Entry}
use Rattle.runner.specs.declared.queue.Queue.{Queue}

-- the same slice is lent after a call, as long as before, for as many slots
pub record SameQueue (old new : Queue) : Type 0 where
  pub numbers : new.numbers.ghost_name ≡ old.numbers.ghost_name
  pub numbers_long : length new.numbers.now ≡ length old.numbers.now
  pub slots : new.n ≡ old.n

-- a slot with its key
abbrev pub leaf : List ℕ → ℕ → Entry
leaf queue k = record { key = get_or queue k 0; slot = k }

-- what node j holds
abbrev pub node : List ℕ → ℕ → ℕ → Entry
node queue n j = record { key = get_or queue (n + 2 * j) 0; slot = get_or queue (n + 2 * j + 1) 0 }

-- what stands at position x
unfoldable pub entry_at : List ℕ → ℕ → ℕ → Entry
entry_at queue n x = if leb n x then leaf queue (x - n) else node queue n x

-- entries in the order of keys and then of slots, as numbers
abbrev pub order_of : Entry → ℕ
order_of e = 4294967296 * e.key + e.slot

-- the smaller key, of equal keys the smaller slot
unfoldable pub first_entry : Entry → Entry → Entry
first_entry a b =
    if ltb a.key b.key then a else if ltb b.key a.key then b else if ltb a.slot b.slot then a else b

-- the other child of the node above position x
abbrev pub beside_of : ℕ → ℕ
beside_of x = if eqb (x % 2) 0 then x + 1 else x - 1

-- the first of the children of node j
abbrev pub first_below : List ℕ → ℕ → ℕ → Entry
first_below queue n j = first_entry (entry_at queue n (2 * j)) (entry_at queue n (2 * j + 1))

-- every node holds the first of its children
unfoldable pub Tree : List ℕ → ℕ → Type 0
Tree queue n = (j : ℕ) → 1 ≤ j → j < n → entry_at queue n j ≡ first_below queue n j

-- node j made to hold e
abbrev pub with_node : List ℕ → ℕ → ℕ → Entry → List ℕ
with_node queue n j e = set (set queue (n + 2 * j) e.key) (n + 2 * j + 1) e.slot

-- node j made from its children
unfoldable pub refreshed : List ℕ → ℕ → ℕ → List ℕ
refreshed queue n j = with_node queue n j (first_below queue n j)

-- node j is made from its children, and r is what it holds then; none, if it did before: it cannot change those above
-- it
pub record Refreshed (before after : List ℕ) (n j : ℕ) (r : Option Entry) : Type 0 where
  pub made : after ≡ refreshed before n j
  pub answer : MatchOption r (after ≡ before) (λ e. e ≡ first_below before n j)

-- the tree made anew of the same keys
pub record Built (entry exit : List ℕ) (n : ℕ) : Type 0 where
  pub tree : Tree exit n
  pub keys : (x : ℕ) → x < n → get_or exit x 0 ≡ get_or entry x 0

-- the tree after the key of slot k was changed
pub record KeySet (entry exit : List ℕ) (n k key : ℕ) : Type 0 where
  pub tree : Tree exit n
  pub keys : (x : ℕ) → x < n → get_or exit x 0 ≡ get_or (set entry k key) x 0

-- r is the slot of the least key, of several the first, with its key
pub record First (queue : List ℕ) (n : ℕ) (r : Entry) : Type 0 where
  pub in-range : r.slot < n
  pub own : r.key ≡ get_or queue r.slot 0
  pub least : (j : ℕ) → j < n → (r.key < get_or queue j 0) ⊎ ((r.key ≡ get_or queue j 0) × (r.slot ≤ j))

-- r is the slot of the least key among those that are pending, with that key; none, if no slot is
abbrev pub NextPending : List ℕ → ℕ → Option Entry → Type 0
NextPending queue n r = MatchOption r ((j : ℕ) → j < n → 4294967295 ≤ get_or queue j 0)
    (λ e. First queue n e × (e.key ≢ 4294967295))

-- how the queue keeps a key of the rules: 0, of a slot that is not pending, as NONE
abbrev pub queue_key : ℕ → ℕ
queue_key zero = 4294967295
queue_key (suc x) = suc x

-- the queue holds the rules' keys
pub record Keyed (queue : List ℕ) (n : ℕ) (keys : List ℕ) : Type 0 where
  pub wide : length keys ≡ n
  pub below : (j : ℕ) → j < n → get_or keys j 0 < 4294967295
  pub keyed : (j : ℕ) → j < n → get_or queue j 0 ≡ queue_key (get_or keys j 0)
