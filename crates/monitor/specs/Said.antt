-- What an event on lent references and sizes gives back, read as a state and a turn. Assumes nothing: these are definitions.
use Rattle.std.specs.Prelude.{ℕ, Bool, List, replicate}
use Rattle.meaning.specs.declared.State.{State}
use Rattle.meaning.specs.declared.Turn.{Turn}
use Rattle.meaning.specs.declared.Answer.TheVariants.{Refused, Verdict}
use Rattle.monitor.specs.declared.Figures.{Figures}
use Rattle.monitor.specs.declared.Said.{Said}

-- the state of these figures, references and sizes
abbrev pub whole : Figures → List ℕ → List ℕ → State
whole f refs sizes = record { k = f.k; rows = f.rows; kept = f.kept; counts = f.counts; refs = refs; sizes = sizes }

-- the figures of a state
abbrev pub figures_of : State → Figures
figures_of s = record { k = s.k; rows = s.rows; kept = s.kept; counts = s.counts }

-- the turn of what is said and of the references and sizes left
abbrev pub turn_of : Said → List ℕ → List ℕ → Turn
turn_of t refs sizes = record { state = whole t.figures refs sizes; answer = t.answer }

-- what is said of a refused event: "A refused event returns the state it got"
unfoldable pub refused_said : Figures → ℕ → ℕ → Said
refused_said f number place = record { figures = f; answer = Refused number place; complements = 0; swept = 0; numbered = replicate 4 0 }

-- what is said of an event that is taken
unfoldable pub taken_said : Figures → List ℕ → ℕ → ℕ → Bool → ℕ → ℕ → List ℕ → Said
taken_said f counts kept room y complements swept numbered = record {
  figures = record { k = f.k; rows = f.rows; kept = kept; counts = counts };
  answer = Verdict y kept room;
  complements = complements;
  swept = swept;
  numbered = numbered;
}
