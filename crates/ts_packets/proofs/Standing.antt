-- A cutter stands for the bytes fed so far, through all calls: for the callers' own invariants too.
use Rattle.std.proofs.Common.{◌≡◌, ℕ, true, false, List, [], ◌++◌, refl, sym, ◌∙◌, ap}
use Rattle.std.proofs.lemmas.Bool.{both_ways}
use Rattle.std.proofs.lemmas.List.{append-nil, append_assoc}
use Rattle.ts_packets.specs.Packets.{packets_of}
use Rattle.ts_packets.specs.Cutter.{CutterState, MayFollow, Gives, StandsFor}

-- before the end was told anything may follow, and nothing may always
pub MayFollow-open : (state : CutterState) (more : List ℕ) → state.ended ≡ false → MayFollow state more
MayFollow-open state more open_end = λ told. absurd (both_ways _ open_end told)

pub MayFollow-nil : (state : CutterState) → MayFollow state []
MayFollow-nil state = λ _. refl

pub StandsFor-new : (state : CutterState) → state.held ≡ [] → StandsFor state [] []
StandsFor-new state empty more may = ap (λ held. packets_of (held ++ more)) (sym empty)

pub StandsFor-feed : (old new : CutterState) (stream taken : List ℕ) (given : List (List ℕ)) → old.ended ≡ false → new.held ≡ old.held ++ taken
    → StandsFor old stream given → StandsFor new (stream ++ taken) given
StandsFor-feed old new stream taken given open_end held stands more may =
    ap packets_of (append_assoc stream taken more)
    ∙ (stands (taken ++ more) (MayFollow-open old (taken ++ more) open_end)
    ∙ ap (λ bytes. given ++ packets_of bytes) (sym (append_assoc old.held taken more) ∙ ap (λ bytes. bytes ++ more) (sym held)))

pub StandsFor-finish : (old new : CutterState) (stream : List ℕ) (given : List (List ℕ)) → new.held ≡ old.held → new.ended ≡ true
    → StandsFor old stream given → StandsFor new stream given
StandsFor-finish old new stream given held told stands more may =
    stands more (λ _. may told) ∙ ap (λ bytes. given ++ packets_of (bytes ++ more)) (sym held)

pub StandsFor-gives : (old new : CutterState) (stream : List ℕ) (given next : List (List ℕ)) → new.ended ≡ old.ended → Gives old next new
    → StandsFor old stream given → StandsFor new stream (given ++ next)
StandsFor-gives old new stream given next ended gives stands more may =
    let before : MayFollow old more = λ told. may (ended ∙ told) in
    stands more before ∙ (ap (λ packets. given ++ packets) (gives more before) ∙ sym (append_assoc given next (packets_of (new.held ++ more))))

-- where no packet is left, those given are the stream's
pub StandsFor-whole : (state : CutterState) (stream : List ℕ) (given : List (List ℕ)) → packets_of state.held ≡ []
    → StandsFor state stream given → packets_of stream ≡ given
StandsFor-whole state stream given none stands =
    ap packets_of (sym (append-nil stream))
    ∙ (stands [] (MayFollow-nil state)
    ∙ (ap (λ bytes. given ++ packets_of bytes) (append-nil state.held)
    ∙ (ap (λ packets. given ++ packets) none ∙ append-nil given)))

-- bytes that are no packet's are left out
pub StandsFor-seek : (old new : CutterState) (stream : List ℕ) (given : List (List ℕ)) → new.ended ≡ old.ended → Gives old [] new
    → StandsFor old stream given → StandsFor new stream given
StandsFor-seek old new stream given ended gives stands more may =
    let before : MayFollow old more = λ told. may (ended ∙ told) in
    stands more before ∙ ap (λ packets. given ++ packets) (gives more before)
