-- Four controllers of any make, and the board that is made of them.
use Rattle.std.specs.Prelude.{◌≡◌, ℕ, ◌<◌, List, [], get_or, length, Some, Ok}
use Rattle.line.specs.declared.row.Row.{Row}
use Rattle.history.specs.declared.call.Event.{Event}
use Rattle.history.specs.Law.{TwoBoards}
use Rattle.tree.specs.Nodes.{Listed}
use Rattle.plan.specs.Plans.{Planned, line_of, plan_of}
use Rattle.controller.specs.declared.interface.Controller.{Ghosts}
use Rattle.controller.specs.Meaning.{Meaning}
use Rattle.cascade.specs.declared.pair.Cascade.{Cascade}
use Rattle.boards.specs.declared.board.Board.{Board}
use Rattle.boards.specs.declared.parts.Parts.{Parts}
use Rattle.boards.specs.Assembly.{Lists, asked, cascaded_lines, reset_lists, seats_of, wiring_of}
use Rattle.boards.specs.Devices.{Led, Ran, device_row, senses_set}
use Rattle.boards.specs.Seats.{Seat, line_at, no_seat, seats, sense_at}

module _ {A B C D : Type 0} (a : Ghosts A) (b : Ghosts B) (c : Ghosts C) (d : Ghosts D) where
  -- each meets its own condition
  pub record AllSound (p : Parts A B C D) : Type 0 where
    pub first : a.sound p.first
    pub second : b.sound p.second
    pub third : c.sound p.third
    pub fourth : d.sound p.fourth

  -- the lines of all four
  abbrev pub lists_in : Parts A B C D → Lists
  lists_in p = record { first = (a.meaning p.first).lines; second = (b.meaning p.second).lines; third = (c.meaning p.third).lines; fourth = (d.meaning p.fourth).lines }

  -- What the tree with these nodes says of a board made of it and of p. Its devices are those of the tree's plan, all or none, by the question asked of the
  -- parts once they are reset; for parts that meet their conditions, of the parts as they were handed over. The line of each is its route's.
  pub record Drawn (es : List Listed) (p : Parts A B C D) (ds : List Seat) : Type 0 where
    pub lists : Lists
    pub given : AllSound p → lists ≡ reset_lists (lists_in p)
    pub devices : ds ≡ seats_of (asked (plan_of es) lists)
    pub asks : AllSound p → ds ≡ seats_of (asked (plan_of es) (lists_in p))
    pub lines : (q : Planned) → plan_of es ≡ Ok q → (i : ℕ) → i < length ds → line_of q.controllers (get_or ds i no_seat).route.spot ≡ Some (line_at ds i)

-- a board is after the history h
abbrev pub BoardLed : {A B C D : Type 0} → Ghosts (Cascade (Cascade (Cascade A B) C) D) → Board A B C D → List Event → Type 0
BoardLed g x h = Led g x.devices.controller (seats x.devices.devices) h

-- the devices of a board
abbrev pub devices_in : {A B C D : Type 0} → Board A B C D → List Seat
devices_in x = seats x.devices.devices

-- what the cascade of a board means
abbrev pub meaning_in : {A B C D : Type 0} → Ghosts (Cascade (Cascade (Cascade A B) C) D) → Board A B C D → Meaning
meaning_in g x = g.meaning x.devices.controller

-- the record of device i of a board
abbrev pub record_in : {A B C D : Type 0} → Ghosts (Cascade (Cascade (Cascade A B) C) D) → Board A B C D → ℕ → Row
record_in g x i = device_row (meaning_in g x).lines (devices_in x) i

-- the law of two boards, each after its own history
abbrev pub BoardsLaw : {A B C D E F G H : Type 0} → Ghosts (Cascade (Cascade (Cascade A B) C) D) → Board A B C D → List Event
    → Ghosts (Cascade (Cascade (Cascade E F) G) H) → Board E F G H → List Event → Type 0
BoardsLaw g x h g' x' h' =
    TwoBoards (length (devices_in x)) (sense_at (devices_in x)) (record_in g x) h (length (devices_in x')) (sense_at (devices_in x')) (record_in g' x') h'

module _ {A B C D : Type 0} (a : Ghosts A) (b : Ghosts B) (c : Ghosts C) (d : Ghosts D) (g : Ghosts (Cascade (Cascade (Cascade A B) C) D)) where
  -- A board as it is assembled: with the devices that the tree says, each with its sense, over the parts cascaded as the tree says, all of it
  -- as a reset leaves it.
  pub record Assembled (es : List Listed) (p : Parts A B C D) (x : Board A B C D) : Type 0 where
    pub drawn : Drawn a b c d es p (devices_in x)
    pub lines : (meaning_in g x).lines ≡ senses_set (devices_in x) (cascaded_lines drawn.lists (wiring_of (asked (plan_of es) drawn.lists)))
    pub led : BoardLed g x []

  -- A board that ran these events after it was assembled so.
  pub record AssembledRan (es : List Listed) (p : Parts A B C D) (h : List Event) (x : Board A B C D) : Type 0 where
    pub start : Board A B C D
    pub assembled : Assembled es p start
    pub devices : devices_in x ≡ devices_in start
    pub ran : Ran (devices_in start) (meaning_in g start) h (meaning_in g x)
