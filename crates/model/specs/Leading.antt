-- What was done to a value, in the states that it stands for.

-- from each state that the old value stood for, it leads to one that the new value stands for and that is so related
abbrev pub LeadsBy : {V S : Type 0} → (V → S → Type 0) → V → V → (S → S → Type 0) → Type 0
LeadsBy {V} {S} StandsFor old new Next = (m : S) → StandsFor old m → (n : S) × StandsFor new n × Next m n
