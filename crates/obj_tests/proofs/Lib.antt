mod BenchUndo
