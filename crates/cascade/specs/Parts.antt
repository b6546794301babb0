-- The condition and the meaning of a cascade, from those of its parts, and what is made of two parts.
use Rattle.std.specs.Prelude.{◌≡◌, ℕ, Option}
use Rattle.controller.specs.declared.interface.Controller.{Ghosts}
use Rattle.controller.specs.Meaning.{Meaning, all_reset}
use Rattle.cascade.specs.declared.pair.Cascade.{Cascade}
use Rattle.cascade.specs.Pairs.{Bound, pair}
use Rattle.cascade.specs.Questions.{made_lines, made_wired}

module _ {P C : Type 0} (p : Ghosts P) (c : Ghosts C) where
  -- the condition: that of each part, and the tie
  abbrev pub PartsSound : P → C → Option ℕ → Type 0
  PartsSound x y o = p.sound x × c.sound y × Bound (p.meaning x) (c.meaning y) o

  abbrev pub parts_meaning : P → C → Option ℕ → Meaning
  parts_meaning x y o = pair (p.meaning x) (c.meaning y) o

  abbrev pub PairSound : Cascade P C → Type 0
  PairSound x = PartsSound x.parent x.child x.wired

  abbrev pub pair_meaning : Cascade P C → Meaning
  pair_meaning x = parts_meaning x.parent x.child x.wired

  -- what is made of a parent x and a child y, to be wired at o: the parts x' and y', wired at o'. They are tied and as a
  -- reset leaves them; and where x and y were sound, the lines and the wired line are theirs by the question's answer.
  pub record Made (x : P) (y : C) (o : Option ℕ) (x' : P) (y' : C) (o' : Option ℕ) : Type 0 where
    pub sound : PartsSound x' y' o'
    pub rests : (parts_meaning x' y' o').lines ≡ all_reset (parts_meaning x' y' o').lines
    pub held : o' ≡ made_wired (p.meaning x').lines (c.meaning y').lines o
    pub lines : p.sound x → c.sound y → (parts_meaning x' y' o').lines ≡ made_lines (p.meaning x).lines (c.meaning y).lines o
    pub wired : p.sound x → c.sound y → o' ≡ made_wired (p.meaning x).lines (c.meaning y).lines o

  -- a cascade made of a parent x and a child y, to be wired at o
  abbrev pub MadeOf : P → C → Option ℕ → Cascade P C → Type 0
  MadeOf x y o z = Made x y o z.parent z.child z.wired
