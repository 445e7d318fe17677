mod TurnsLaws
